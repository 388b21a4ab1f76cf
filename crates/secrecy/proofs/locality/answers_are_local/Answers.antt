use Rattle.std.proofs.Common.{refl}
use Rattle.secrecy.proofs.locality.answers_are_local.Goals as goal
use Rattle.secrecy.proofs.LocalAnswers.{locality}

pub returns : goal.returns
returns c = record { law = locality; stands = refl }
