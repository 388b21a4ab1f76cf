use Rattle.std.proofs.Common.{refl}
use Rattle.secrecy.proofs.frame.unreached_tables_keep_their_rows.Goals as goal
use Rattle.secrecy.proofs.Unreached.{frame}

pub returns : goal.returns
returns c = record { law = frame; stands = refl }
