-- A card leaves alone what its user does not reach.
use Rattle.std.specs.Prelude.{◌≡◌, ℕ, false, Some}
use Rattle.cardmodel.specs.State.{Bytes, Id, Card}
use Rattle.cardmodel.specs.Answer.{Sent, after, Capacities}
use Rattle.cardlaws.specs.Sound.{Sound}
use Rattle.secrecy.specs.Locality.{reaches_table}

-- FRAME: a table that the current user reaches neither itself nor through a view keeps its rows exactly.
abbrev pub Frame : Type 0
Frame =
    (total : ℕ) (z : Capacities) (c : Card) → Sound total z c → (u : Id) → c.current ≡ Some u →
    (m : Sent) (t : Bytes) → reaches_table c.catalogue u t ≡ false → (after c m).rows t ≡ c.rows t
