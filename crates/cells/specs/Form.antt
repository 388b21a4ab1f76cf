-- The form of a row: a count byte, then each cell as a length byte and that many bytes.
use Rattle.std.specs.Prelude.{◌≡◌, ℕ, zero, suc, cond, List, [], ◌∷◌, ◌++◌, length, take, drop, Some, None, Option, nat_le, slice_index, slice_index_or}

-- a cell with its length byte
abbrev pub encoded_cell : List ℕ → List ℕ
encoded_cell c = length c ∷ c

-- cells one after another
abbrev pub encoded_cells : List (List ℕ) → List ℕ
encoded_cells [] = []
encoded_cells (c ∷ cs) = encoded_cell c ++ encoded_cells cs

-- the row form of cells
abbrev pub encoded : List (List ℕ) → List ℕ
encoded cs = length cs ∷ encoded_cells cs

-- a cell before others, if those were read
abbrev pub before : List ℕ → Option (List (List ℕ)) → Option (List (List ℕ))
before c None = None
before c (Some cs) = Some (c ∷ cs)

-- so many cells, if the bytes are these cells and nothing else
abbrev pub decoded_cells : ℕ → List ℕ → Option (List (List ℕ))
decoded_cells zero [] = Some []
decoded_cells zero (b ∷ bs) = None
decoded_cells (suc k) [] = None
decoded_cells (suc k) (n ∷ bs) = cond (nat_le n (length bs)) (before (take n bs) (decoded_cells k (drop n bs))) None

-- the cells of bytes that have the form exactly: nothing is missing, and nothing is left over
abbrev pub decoded : List ℕ → Option (List (List ℕ))
decoded [] = None
decoded (n ∷ bs) = decoded_cells n bs

-- the string whose length byte comes first: as much of it as there is
abbrev pub string_of : List ℕ → List ℕ
string_of [] = []
string_of (n ∷ bs) = take n bs

-- what stands behind that string
abbrev pub behind : List ℕ → List ℕ
behind [] = []
behind (n ∷ bs) = drop n bs

-- a cell of bytes that begin with a length byte
abbrev pub cell_from : List ℕ → ℕ → List ℕ
cell_from bs zero = string_of bs
cell_from bs (suc k) = cell_from (behind bs) k

-- the cell of a column, found from length byte to length byte, whatever the count byte says; nothing where the row ends
-- before it
abbrev pub cell_at : List ℕ → ℕ → List ℕ
cell_at row column = cell_from (drop 1 row) column

-- Any cells come back from their form, and bytes that have the form are the form of what they decode to.
abbrev pub RoundTrip : Type 0
RoundTrip =
    ((cs : List (List ℕ)) → decoded (encoded cs) ≡ Some cs)
    × ((bs : List ℕ) (cs : List (List ℕ)) → decoded bs ≡ Some cs → encoded cs ≡ bs)

-- A cell that is read alone is the cell of the whole row.
abbrev pub CellsRead : Type 0
CellsRead = (bs : List ℕ) (cs : List (List ℕ)) → decoded bs ≡ Some cs → (k : ℕ) → cell_at bs k ≡ slice_index_or cs k []

-- The count byte tells how many cells there are.
abbrev pub CountRead : Type 0
CountRead = (bs : List ℕ) (cs : List (List ℕ)) → decoded bs ≡ Some cs → slice_index bs 0 ≡ length cs
