-- Where the cursor goes next.
use Rattle.std.specs.Prelude.{◌≡◌, ℕ, ◌<◌, ◌≤◌, Bool, true, false, List, [], length, Some, None, Option, slice_index_or}
use Rattle.cardmodel.specs.State.{Row, Rows, Choice}
use Rattle.cardmodel.specs.Objects.{Window, rows_behind}
use Rattle.cardmodel.specs.CursorRules.{selected, next_selected}

-- from a place on, no row before another place passes
abbrev NoneBetween : (Row → Bool) → List Row → ℕ → ℕ → Type 0
NoneBetween p rs from to = (j : ℕ) → from ≤ j → j < to → p (slice_index_or rs j []) ≡ false

-- the first that passes from a place on, or none if none does
abbrev pub FirstFrom : (Row → Bool) → List Row → ℕ → Option ℕ → Type 0
FirstFrom p rs from None = NoneBetween p rs from (length rs)
FirstFrom p rs from (Some i) = (from ≤ i) × (i < length rs) × (p (slice_index_or rs i []) ≡ true) × NoneBetween p rs from i

-- THE NEXT ROW of a cursor is the first selected one from a place on; there is none exactly if no such row is selected.
abbrev pub NextFirst : Type 0
NextFirst = (w : Window) (s : Choice) (rows : Rows) (from : ℕ) → FirstFrom (selected w s.tests) (rows_behind rows w) from (next_selected w s rows from)
