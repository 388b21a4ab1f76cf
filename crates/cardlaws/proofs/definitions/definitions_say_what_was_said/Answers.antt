use Rattle.std.proofs.Common.{refl}
use Rattle.cardlaws.proofs.definitions.definitions_say_what_was_said.Goals as goal
use Rattle.cardlaws.proofs.Reread.{definitions_say}

pub returns : goal.returns
returns c = record { law = definitions_say; stands = refl }
