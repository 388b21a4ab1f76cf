-- What a user sees of a card.
use Rattle.std.specs.Prelude.{◌≡◌, ℕ, ◌<◌, Bool, true, false, cond, ◌&&◌, List, [], ◌∷◌, map, length, filter, slice_index_or}
use Rattle.cardmodel.specs.Lists.{any}
use Rattle.cardmodel.specs.State.{Bytes, Id, Row, Object, Privilege, Catalogue, Card}
use Rattle.cardmodel.specs.Objects.{over_table, Window, window, shows, cell, meets}
use Rattle.cardmodel.specs.Rights.{reaches}

-- the objects over a table that a user reaches
abbrev pub reached_over : List Privilege → Id → Bytes → Object → Bool
reached_over ps u t o = reaches ps u o && over_table t o

unfoldable pub reached : Catalogue → Id → Bytes → List Window
reached k u t = map (window k.objects.records) (filter (reached_over k.privileges.records u t) k.objects.records)

-- of a row, the objects that show it, each with the cells that it shows
pub record Shown : Type 0 where
  pub object : Bytes
  pub cells : List Bytes

abbrev pub shown : Window → Row → Shown
shown w r = record { object = w.name; cells = map (cell r) w.columns }

abbrev pub showing : List Window → Row → List Shown
showing [] r = []
showing (w ∷ ws) r = cond (meets w r) (shown w r ∷ showing ws r) (showing ws r)

abbrev pub some_shown : List Shown → Bool
some_shown [] = false
some_shown (x ∷ xs) = true

-- the rows that some object shows, in order, each with those objects and cells
abbrev pub shown_rows : List Window → List Row → List (List Shown)
shown_rows ws rs = filter some_shown (map (showing ws) rs)

-- THE SIGHT of a user: the registers with the space left in each, the free rows, and for each table, in order, the rows
-- that some reached object shows.
pub record Sight : Type 0 where
  pub catalogue : Catalogue
  pub seen : Bytes → List (List Shown)

abbrev pub sight : Id → Card → Sight
sight u c = record { catalogue = c.catalogue; seen = λ t. shown_rows (reached c.catalogue u t) (c.rows t) }

-- a cell of a row is inside if some reached object shows it
unfoldable pub cell_shown : List Window → Row → ℕ → Bool
cell_shown ws r n = any (λ w. meets w r && shows w n) ws

-- from one card to another, every cell outside the sight of the first keeps its bytes, and its row its place
abbrev pub OutsideKept : Id → Card → Card → Type 0
OutsideKept u c d =
    (t : Bytes) (i n : ℕ) → i < length (c.rows t) → n < length (slice_index_or (c.rows t) i []) →
    cell_shown (reached c.catalogue u t) (slice_index_or (c.rows t) i []) n ≡ false →
    (i < length (d.rows t)) × (n < length (slice_index_or (d.rows t) i [])) × (cell (slice_index_or (d.rows t) i []) n ≡ cell (slice_index_or (c.rows t) i []) n)
