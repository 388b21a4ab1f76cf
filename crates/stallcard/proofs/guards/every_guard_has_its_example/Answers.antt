use Rattle.std.proofs.Common.{refl}
use Rattle.stallcard.proofs.guards.every_guard_has_its_example.Goals as goal
use Rattle.stallcard.proofs.Examples.{guarded}

pub returns : goal.returns
returns c = record { law = guarded; stands = refl }
