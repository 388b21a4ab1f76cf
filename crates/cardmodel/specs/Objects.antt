-- What an object's record says. Every function of it is total.
use Rattle.std.specs.Prelude.{ℕ, suc, Bool, true, false, cond, ◌&&◌, List, [], ◌∷◌, map, length, Some, None, Option, nat_eq, slice_index, slice_index_or}
use Rattle.std.specs.List.{range_with_len}
use Rattle.std.specs.Option.{option_map}
use Rattle.std.specs.Str.{bytes_eq}
use Rattle.text.specs.declared.operator.Operator.{Operator}
use Rattle.std.specs.declared.cmp.Ordering.{Ordering}
use Rattle.text.specs.Operator.{coded_by, holds_of}
use Rattle.text.specs.Order.{order}
use Rattle.fields.specs.Column.{Column, column_of}
use Rattle.fields.specs.Reader.{Read, got, broken, Parameter, parameters}
use Rattle.commands.specs.Command.{Selected}
use Rattle.commands.specs.Parsers.{selection_at}
use Rattle.cardmodel.specs.Lists.{any, all, first, somes}
use Rattle.cardmodel.specs.State.{Bytes, Row, Kind, a_table, a_view, Object, Rows, Placed, Test}

-- names are the same if their bytes are
unfoldable pub same : Bytes → Bytes → Bool
same x y = bytes_eq x y

abbrev pub is_table : Object → Bool
is_table o = table_kind o.kind
  where
    table_kind : Kind → Bool
    table_kind (a_table limit) = true
    table_kind a_view = false

abbrev pub limit_of : Kind → ℕ
limit_of (a_table limit) = limit
limit_of a_view = 0

-- an object by its name; a table, and a view
abbrev pub named : Bytes → Object → Bool
named n o = same o.name n

unfoldable pub object_named : List Object → Bytes → Option Object
object_named os n = first (named n) os

unfoldable pub table_named : List Object → Bytes → Option Object
table_named os n = first (λ o. named n o && is_table o) os

-- what a table's definition says: a count, and as many columns
unfoldable pub columns_in : Bytes → List Column
columns_in definition = somes (map (λ p. column_of p.bytes) (parameters definition 1 (slice_index definition 0)))

-- what a view's definition says: a table, columns of it, and conditions
abbrev nothing : Selected
nothing = record { source = record { place = 0; bytes = [] }; columns = []; conditions = [] }

abbrev or_nothing : Read Selected → Selected
or_nothing (got s q) = s
or_nothing (broken p) = nothing

unfoldable pub selection_in : Bytes → Selected
selection_in definition = or_nothing (selection_at definition 0)

-- the table that an object speaks of: a table of itself, a view of the one that it selects from
abbrev base_of : Bytes → Bytes → Kind → Option Bytes
base_of name definition (a_table limit) = Some name
base_of name definition a_view = Some (selection_in definition).source.bytes

unfoldable pub base : Object → Option Bytes
base o = base_of o.name o.definition o.kind

abbrev same_name : Bytes → Option Bytes → Bool
same_name t None = false
same_name t (Some n) = same n t

abbrev pub over_table : Bytes → Object → Bool
over_table t o = same_name t (base o)

-- all columns of that table
abbrev columns_found : Option Object → List Column
columns_found None = []
columns_found (Some o) = columns_in o.definition

abbrev held_by : List Object → Bytes → Kind → List Column
held_by os definition (a_table limit) = columns_in definition
held_by os definition a_view = columns_found (table_named os (selection_in definition).source.bytes)

-- a column by its name, with its number
abbrev one_on : Placed → Placed
one_on p = record { number = suc p.number; column = p.column }

unfoldable pub column_named : List Column → Bytes → Option Placed
column_named [] name = None
column_named (c ∷ cs) name = cond (same c.name name) (Some (record { number = 0; column = c })) (option_map one_on (column_named cs name))

-- the numbers of columns that are named, looked up somewhere
abbrev pub numbers_of : (Bytes → Option Placed) → List Parameter → List ℕ
numbers_of find ps = somes (map (λ p. option_map (λ c. c.number) (find p.bytes)) ps)

-- conditions, three parameters each: a column, the code of an operator and a string
abbrev test_of : Option Placed → Option Operator → Bytes → Option Test
test_of None o s = None
test_of (Some c) None s = None
test_of (Some c) (Some o) s = Some (record { on = c; operator = o; string = s })

abbrev pub tests_of : (Bytes → Option Placed) → List Parameter → List (Option Test)
tests_of find [] = []
tests_of find (c ∷ []) = []
tests_of find (c ∷ (o ∷ [])) = []
tests_of find (c ∷ (o ∷ (s ∷ ps))) = test_of (find c.bytes) (coded_by (slice_index o.bytes 0)) s.bytes ∷ tests_of find ps

-- the columns that are shown: those that are named, or all
abbrev pub all_numbers : List Column → List ℕ
all_numbers cs = range_with_len 0 (length cs)

abbrev named_or_all : List Column → List Parameter → List ℕ
named_or_all cs [] = all_numbers cs
named_or_all cs (p ∷ ps) = numbers_of (column_named cs) (p ∷ ps)

abbrev shown_by : List Column → Bytes → Kind → List ℕ
shown_by cs definition (a_table limit) = all_numbers cs
shown_by cs definition a_view = named_or_all cs (selection_in definition).columns

abbrev tests_by : List Column → Bytes → Kind → List Test
tests_by cs definition (a_table limit) = []
tests_by cs definition a_view = somes (tests_of (column_named cs) (selection_in definition).conditions)

-- What an object lets be seen: of which table, with which columns; the numbers of the columns that it shows; and the
-- conditions that a row must meet.
pub record Window : Type 0 where
  pub name : Bytes
  pub table : Option Bytes
  pub held : List Column
  pub columns : List ℕ
  pub tests : List Test

-- The window of an object, among all objects: a view's names are looked up in its table.
unfoldable pub window : List Object → Object → Window
window os o = record {
  name = o.name;
  table = base o;
  held = held_by os o.definition o.kind;
  columns = shown_by (held_by os o.definition o.kind) o.definition o.kind;
  tests = tests_by (held_by os o.definition o.kind) o.definition o.kind;
}

unfoldable pub shows : Window → ℕ → Bool
shows w n = any (nat_eq n) w.columns

-- a column by its name, if it is shown
abbrev if_shown : Window → Option Placed → Option Placed
if_shown w None = None
if_shown w (Some p) = cond (shows w p.number) (Some p) None

unfoldable pub shown_column : Window → Bytes → Option Placed
shown_column w name = if_shown w (column_named w.held name)

-- a cell of a row
abbrev pub cell : Row → ℕ → Bytes
cell r n = slice_index_or r n []

-- how two strings of a column stand to one another
unfoldable pub compared : Column → Bytes → Bytes → Ordering
compared c x y = order x y

unfoldable pub passes : Row → Test → Bool
passes r q = holds_of q.operator (compared q.on.column (cell r q.on.number) q.string)

-- a row is under a window if it meets all conditions
unfoldable pub meets : Window → Row → Bool
meets w r = all (passes r) w.tests

-- the rows of the table that a window is of
abbrev rows_of_table : Rows → Option Bytes → List Row
rows_of_table rows None = []
rows_of_table rows (Some t) = rows t

unfoldable pub rows_behind : Rows → Window → List Row
rows_behind rows w = rows_of_table rows w.table
