-- What the store needs of each call, said of a card. It is the last check of every command that writes.
use Rattle.std.specs.Prelude.{ℕ, Bool, ◌&&◌, List, length, filter, nat_le, nat_lt}
use Rattle.cells.specs.Form.{encoded}
use Rattle.cardmodel.specs.State.{Row, Object, Catalogue}
use Rattle.cardmodel.specs.Objects.{is_table}

-- at most sixteen tables stand
abbrev pub table_count : List Object → ℕ
table_count os = length (filter is_table os)

-- a table is made: there is a number for it, its limit is from 1 to 255, and so many rows are free
unfoldable pub makes_table : Catalogue → ℕ → Bool
makes_table k limit = nat_lt (table_count k.objects.records) 16 && ((nat_le 1 limit && nat_le limit 255) && nat_le limit k.free)

-- a row, as it is stored, has at most 240 bytes (and never none)
unfoldable pub storable : Row → Bool
storable r = nat_le (length (encoded r)) 240

-- a row is added below the table's limit
unfoldable pub appends : ℕ → List Row → Row → Bool
appends limit rows r = storable r && nat_lt (length rows) limit

-- a row is replaced, or removed, where one stands
unfoldable pub replaces : List Row → ℕ → Row → Bool
replaces rows i r = nat_lt i (length rows) && storable r

unfoldable pub removes : List Row → ℕ → Bool
removes rows i = nat_lt i (length rows)
