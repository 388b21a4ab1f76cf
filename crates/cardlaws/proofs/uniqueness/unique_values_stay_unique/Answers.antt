use Rattle.std.proofs.Common.{refl}
use Rattle.cardlaws.proofs.uniqueness.unique_values_stay_unique.Goals as goal
use Rattle.cardlaws.proofs.Kept.{unique_values}

pub returns : goal.returns
returns c = record { law = unique_values; stands = refl }
