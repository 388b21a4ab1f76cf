use Rattle.std.proofs.Common.{refl}
use Rattle.stallcard.proofs.causes.every_cause_has_its_example.Goals as goal
use Rattle.stallcard.proofs.Examples.{caused}

pub returns : goal.returns
returns c = record { law = caused; stands = refl }
