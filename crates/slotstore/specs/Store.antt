-- What slots and their chains mean: chain t is table t, and chain 16 has the free slots.
use Rattle.std.specs.Prelude.{ℕ, List, [], map, slice_index_or}
use Rattle.std.specs.List.{range_with_len}
use Rattle.rowmodel.specs.Meaning.{Table, table_of, Meaning}
use Rattle.slotstore.specs.declared.slot.Slot.{Slot}
use Rattle.slotstore.specs.declared.chain.Chain.{Chain}
use Rattle.slotstore.specs.Slot.{contents, links}
use Rattle.slotstore.specs.Chain.{chain_at, spot}

-- the row at place k of chain t
abbrev pub row_along : List Slot → List Chain → ℕ → ℕ → List ℕ
row_along ss cs t k = slice_index_or (contents ss) (spot (links ss) cs t k) []

-- the rows of chain t
abbrev pub rows_along : List Slot → List Chain → ℕ → List (List ℕ)
rows_along ss cs t = map (row_along ss cs t) (range_with_len 0 (chain_at cs t).count)

-- the table of chain t: its size is the limit, and a chain of no slots is an unused number
abbrev pub table_along : List Slot → List Chain → ℕ → Table
table_along ss cs t = table_of (chain_at cs t).size (rows_along ss cs t)

-- sixteen tables, and a free row for each slot of the free chain
abbrev pub slot_meaning : List Slot → List Chain → Meaning
slot_meaning ss cs = record { tables = map (table_along ss cs) (range_with_len 0 16); free = (chain_at cs 16).size }
