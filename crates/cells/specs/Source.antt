-- The cells of a new row, each from the command or from the same column of the old row.
use Rattle.std.specs.Prelude.{ℕ, ◌+◌, List, [], ◌∷◌, drop}
use Rattle.cells.specs.Form.{string_of, cell_at}
use Rattle.cells.specs.declared.source.Source.{Source}
use Rattle.cells.specs.declared.source.Source.TheVariants.{Command, Old}

-- the cell that a source supplies for a column; a string of the command is known by the place of its length byte
abbrev pub supplied : List ℕ → List ℕ → ℕ → Source → List ℕ
supplied command old column (Command place) = string_of (drop place command)
supplied command old column Old = cell_at old column

-- the cells from a column on
abbrev pub cells_on : List ℕ → List ℕ → ℕ → List Source → List (List ℕ)
cells_on command old column [] = []
cells_on command old column (s ∷ ss) = supplied command old column s ∷ cells_on command old (column + 1) ss

-- the cells of the new row, one for each source
abbrev pub new_cells : List ℕ → List ℕ → List Source → List (List ℕ)
new_cells command old sources = cells_on command old 0 sources
