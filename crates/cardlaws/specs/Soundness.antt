-- Every card that a list of commands makes of a new one is sound.
use Rattle.std.specs.Prelude.{ℕ, min, List}
use Rattle.cardmodel.specs.Answer.{Sent, run, Capacities, new_card}
use Rattle.cardlaws.specs.Sound.{Sound}

abbrev pub AlwaysSound : Type 0
AlwaysSound = (rows : ℕ) (z : Capacities) (ms : List Sent) → Sound (min rows 65535) z (run (new_card rows z) ms)
