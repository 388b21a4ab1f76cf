-- What a row store holds: sixteen tables and the free rows.
use Rattle.std.specs.Prelude.{◌≡◌, ℕ, zero, suc, ◌+◌, ◌<◌, ◌≤◌, Bool, true, false, ◌&&◌, List, [], ◌∷◌, length, replicate, nat_le, slice_index_or, slice_set}

-- A row is a list of bytes. A table number is unused, or has a limit and a list of rows.
pub data Table : Type 0 where
  unused : Table
  used : ℕ → List (List ℕ) → Table

pub record Meaning : Type 0 where
  pub tables : List Table
  pub free : ℕ

-- a store at its start: n free rows and no used number
abbrev pub empty : ℕ → Meaning
empty n = record { tables = replicate 16 unused; free = n }

-- the table of a number; a number past the last is unused
abbrev pub table : Meaning → ℕ → Table
table m t = slice_index_or m.tables t unused

-- the meaning with another table at a number, or another number of free rows
abbrev pub with_table : Meaning → ℕ → Table → Meaning
with_table m t x = record { tables = slice_set m.tables t x; free = m.free }

abbrev pub with_free : Meaning → ℕ → Meaning
with_free m n = record { tables = m.tables; free = n }

-- a table by its limit and rows; a limit of 0 says that the number is unused
abbrev pub table_of : ℕ → List (List ℕ) → Table
table_of zero rows = unused
table_of (suc n) rows = used (suc n) rows

-- what is asked of one table
abbrev pub is_used : Table → Bool
is_used unused = false
is_used (used limit rows) = true

abbrev pub limit_of : Table → ℕ
limit_of unused = 0
limit_of (used limit rows) = limit

abbrev pub rows_of : Table → List (List ℕ)
rows_of unused = []
rows_of (used limit rows) = rows

-- the table with another list of rows
abbrev pub with_rows : Table → List (List ℕ) → Table
with_rows unused rows = unused
with_rows (used limit old) rows = used limit rows

-- the row at a place; no row is empty, so [] says that there is none
abbrev pub row_at : Meaning → ℕ → ℕ → List ℕ
row_at m t k = slice_index_or (rows_of (table m t)) k []

-- a row has 1 to 240 bytes
abbrev pub allowed : ℕ → Bool
allowed n = nat_le 1 n && nat_le n 240

-- all limits together
abbrev pub limits : List Table → ℕ
limits [] = 0
limits (x ∷ xs) = limit_of x + limits xs

-- What holds of every store.
-- A table in use has a limit of 1 to 255, and no more rows than that.
abbrev pub Limited : Meaning → Type 0
Limited m = (t : ℕ) →
    (is_used (table m t) ≡ true → 1 ≤ limit_of (table m t))
    × (limit_of (table m t) ≤ 255)
    × (length (rows_of (table m t)) ≤ limit_of (table m t))

-- Each row has 1 to 240 bytes.
abbrev pub Sized : Meaning → Type 0
Sized m = (t k : ℕ) → k < length (rows_of (table m t)) → (1 ≤ length (row_at m t k)) × (length (row_at m t k) ≤ 240)

-- Free rows and limits together are at most 65,535.
abbrev pub Roomy : Meaning → Type 0
Roomy m = m.free + limits m.tables ≤ 65535

pub record Sound (m : Meaning) : Type 0 where
  pub sixteen : length m.tables ≡ 16
  pub limited : Limited m
  pub sized : Sized m
  pub roomy : Roomy m
