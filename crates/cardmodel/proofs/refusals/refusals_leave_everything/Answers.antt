use Rattle.std.proofs.Common.{refl}
use Rattle.cardmodel.proofs.refusals.refusals_leave_everything.Goals as goal
use Rattle.cardmodel.proofs.Refusing.{refusals_leave}

pub returns : goal.returns
returns c = record { law = refusals_leave; stands = refl }
