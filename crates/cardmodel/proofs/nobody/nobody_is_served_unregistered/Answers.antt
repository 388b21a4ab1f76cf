use Rattle.std.proofs.Common.{refl}
use Rattle.cardmodel.proofs.nobody.nobody_is_served_unregistered.Goals as goal
use Rattle.cardmodel.proofs.Refusing.{nobody_served}

pub returns : goal.returns
returns c = record { law = nobody_served; stands = refl }
