-- A card answers by what its user reaches.
use Rattle.std.specs.Prelude.{◌≡◌, ℕ, Bool, true, false, List, [], ◌∷◌, Some}
use Rattle.cardmodel.specs.State.{Bytes, Id, Catalogue, Card}
use Rattle.cardmodel.specs.Objects.{Window}
use Rattle.cardmodel.specs.Answer.{Sent, after, reply, PresentsNobody, Capacities}
use Rattle.cardmodel.specs.Sight.{reached}
use Rattle.cardlaws.specs.Sound.{Sound}

-- a user reaches a table, itself or through a view
abbrev some_window : List Window → Bool
some_window [] = false
some_window (w ∷ ws) = true

abbrev pub reaches_table : Catalogue → Id → Bytes → Bool
reaches_table k u t = some_window (reached k u t)

-- two cards of one catalogue, user and cursor, with equal rows in every table that the user reaches
pub record EqualWithinReach (u : Id) (c d : Card) : Type 0 where
  pub catalogue : c.catalogue ≡ d.catalogue
  pub left_user : c.current ≡ Some u
  pub right_user : d.current ≡ Some u
  pub cursor : c.cursor ≡ d.cursor
  pub rows : (t : Bytes) → reaches_table c.catalogue u t ≡ true → c.rows t ≡ d.rows t

-- LOCALITY: such cards give equal replies to every command, and are such cards again unless another user is presented.
abbrev pub Locality : Type 0
Locality =
    (total other_total : ℕ) (z other_z : Capacities) (c d : Card) → Sound total z c → Sound other_total other_z d → (u : Id) → EqualWithinReach u c d →
    (m : Sent) → (reply c m ≡ reply d m) × (PresentsNobody c m → EqualWithinReach u (after c m) (after d m))
