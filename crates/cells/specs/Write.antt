-- What becomes of an area to which a new row is written.
use Rattle.std.specs.Prelude.{ℕ, cond, List, ◌++◌, length, drop, Some, None, Option, nat_le}
use Rattle.cells.specs.declared.source.Source.{Source}
use Rattle.cells.specs.Form.{encoded}
use Rattle.cells.specs.Source.{new_cells}

-- the length of the new row's form; a count byte tells at most 255 cells
abbrev pub measured : List ℕ → List ℕ → List Source → Option ℕ
measured command old sources = cond (nat_le (length sources) 255) (Some (length (encoded (new_cells command old sources)))) None

-- a length, if there is one and so much space
abbrev pub fitted : ℕ → Option ℕ → Option ℕ
fitted space None = None
fitted space (Some n) = cond (nat_le n space) (Some n) None

-- the area afterwards: the row in front if its length was told
abbrev pub with_row : List ℕ → List ℕ → Option ℕ → List ℕ
with_row area row None = area
with_row area row (Some n) = row ++ drop n area
