-- A refusal leaves everything.
use Rattle.std.specs.Prelude.{◌≡◌, false}
use Rattle.cardmodel.specs.State.{Card}
use Rattle.cardmodel.specs.Answer.{Sent, after, reply, is_accepted}

-- a command that gets a cause leaves the whole card, whatever it holds
abbrev pub RefusalsLeave : Type 0
RefusalsLeave = (c : Card) (m : Sent) → is_accepted (reply c m) ≡ false → after c m ≡ c
