-- A column of a table, as a parameter says it: an identifier other than USER, then optionally `.U`, then optionally
-- `.V` and a byte.
use Rattle.std.specs.Prelude.{ℕ, ◌+◌, Bool, true, false, cond, not, ◌&&◌, List, [], ◌∷◌, length, take, drop, Some, None, codes, Option, ◌==◌, slice_index}
use Rattle.std.specs.Option.{option_map}
use Rattle.std.specs.Str.{bytes_eq}
use Rattle.text.specs.Identifier.{identifies}
use Rattle.fields.specs.declared.column.Column.{Column as Code}
use Rattle.fields.specs.declared.column.Marks.{Marks}

-- the place of the first dot, or the length where there is none
abbrev pub dot : List ℕ → ℕ
dot [] = 0
dot (c ∷ cs) = cond (c == 46) 0 (dot cs + 1)

-- `.U`, `.V` and a byte, both, or neither; without `.V` the longest length is 24
abbrev pub marks : List ℕ → Option Marks
marks bs =
    cond (length bs == 0) (Some (record { unique = false; longest = 24 }))
    (cond (length bs == 2 && (slice_index bs 0 == 46 && slice_index bs 1 == 85)) (Some (record { unique = true; longest = 24 }))
    (cond (length bs == 3 && (slice_index bs 0 == 46 && slice_index bs 1 == 86)) (Some (record { unique = false; longest = slice_index bs 2 }))
    (cond (length bs == 5 && (slice_index bs 0 == 46 && (slice_index bs 1 == 85 && (slice_index bs 2 == 46 && slice_index bs 3 == 86)))) (Some (record { unique = true; longest = slice_index bs 4 }))
    None)))

pub record Column : Type 0 where
  pub name : List ℕ
  pub unique : Bool
  pub longest : ℕ

abbrev pub marked : List ℕ → Marks → Column
marked name m = record { name = name; unique = m.unique; longest = m.longest }

abbrev pub column_of : List ℕ → Option Column
column_of bs =
    cond (identifies (take (dot bs) bs) && not (bytes_eq (take (dot bs) bs) (codes "USER")))
    (option_map (marked (take (dot bs) bs)) (marks (drop (dot bs) bs)))
    None

-- what the code's column says
abbrev pub column : Code → Column
column c = record { name = c.name.now; unique = c.unique; longest = c.longest }
