use Rattle.std.proofs.Common.{refl}
use Rattle.cardmodel.proofs.next.the_next_row_is_the_first_selected.Goals as goal
use Rattle.cardmodel.proofs.Places.{next_first}

pub returns : goal.returns
returns c = record { law = next_first; stands = refl }
