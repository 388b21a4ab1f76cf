use Rattle.std.proofs.Common.{refl}
use Rattle.secrecy.proofs.secrecy.only_sight_is_told.Goals as goal
use Rattle.secrecy.proofs.Theorem.{secrecy}

pub returns : goal.returns
returns c = record { law = secrecy; stands = refl }
