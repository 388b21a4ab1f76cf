use Rattle.std.proofs.Common.{refl}
use Rattle.stallcard.proofs.worked.worked_examples_hold.Goals as goal
use Rattle.stallcard.proofs.Examples.{worked}

pub returns : goal.returns
returns c = record { law = worked; stands = refl }
