use Rattle.std.proofs.Common.{refl}
use Rattle.cardlaws.proofs.soundness.every_card_is_sound.Goals as goal
use Rattle.cardlaws.proofs.Kept.{always_sound}

pub returns : goal.returns
returns c = record { law = always_sound; stands = refl }
