-- The commands of the cursor and of rows. They leave the catalogue.
use Rattle.std.specs.Prelude.{ℕ, suc, Bool, true, false, cond, ◌&&◌, ◌||◌, List, [], ◌∷◌, ◌++◌, map, length, Some, None, Option, ◌==◌, nat_eq, nat_le, slice_index_or, slice_set}
use Rattle.std.specs.List.{remove}
use Rattle.std.specs.declared.cmp.Ordering.{Ordering}
use Rattle.std.specs.declared.cmp.Ordering.TheVariants.{Less, Equal, Greater}
use Rattle.fields.specs.Column.{Column}
use Rattle.fields.specs.Reader.{Parameter}
use Rattle.cells.specs.Form.{encoded}
use Rattle.commands.specs.Command.{Selected}
use Rattle.cardmodel.specs.Lists.{any, all, somes, next_place}
use Rattle.cardmodel.specs.State.{Bytes, Id, Row, Object, Catalogue, Rows, Placed, Test, Choice, Cursor, absent, declared, on_row, ended, Card}
use Rattle.cardmodel.specs.Objects.{is_table, limit_of, object_named, table_named, columns_in, over_table, Window, window, shown_column, numbers_of, tests_of, cell, compared, passes, meets, rows_behind}
use Rattle.cardmodel.specs.Rights.{may, reaches}
use Rattle.cardmodel.specs.Verdict.{Checked, refused, passed, unless, unless_at, with_found, Outcome, gives, no_further_row, cursor_state, missing, not_allowed, foreign, barred, too_long, repeated, store_refuses, le_short}
use Rattle.cardmodel.specs.Storing.{appends, replaces, removes}
use Rattle.cardmodel.specs.CatalogueRules.{with_rows, first_foreign, names_in}

-- What such a command makes: rows, a cursor, and what is told.
pub record Step : Type 0 where
  pub rows : Rows
  pub cursor : Cursor
  pub outcome : Outcome

abbrev pub moved : Card → Step → Card
moved c s = record { catalogue = c.catalogue; rows = s.rows; current = c.current; cursor = s.cursor }

-- the window of a cursor's object
abbrev pub through : Catalogue → Choice → Window
through k s = window k.objects.records s.object

-- A row is selected if it meets the conditions of the cursor's object and the cursor's own.
unfoldable pub selected : Window → List Test → Row → Bool
selected w tests r = meets w r && all (passes r) tests

-- THE NEXT ROW: the first selected one from a place on
unfoldable pub next_selected : Window → Choice → Rows → ℕ → Option ℕ
next_selected w s rows from = next_place (selected w s.tests) (rows_behind rows w) from

-- the cursor goes to a place, or is ended
abbrev pub gone_to : Rows → Choice → Option ℕ → Checked Step
gone_to rows s None = passed (record { rows = rows; cursor = ended s; outcome = no_further_row })
gone_to rows s (Some i) = passed (record { rows = rows; cursor = on_row s i; outcome = gives [] })

-- DECLARE CURSOR: over columns that the object shows
abbrev chosen_columns : Window → List Parameter → List ℕ
chosen_columns w [] = w.columns
chosen_columns w (p ∷ ps) = numbers_of (shown_column w) (p ∷ ps)

abbrev pub choice_of : Window → Object → Selected → Choice
choice_of w o s = record { object = o; columns = chosen_columns w s.columns; tests = somes (tests_of (shown_column w) s.conditions) }

unfoldable pub declaring : Catalogue → Id → Rows → Selected → Checked Step
declaring k u rows s =
    with_found (object_named k.objects.records s.source.bytes) not_allowed (λ o.
    unless (reaches k.privileges.records u o) not_allowed
    (unless_at (first_foreign (window k.objects.records o) (names_in s)) foreign
    (passed (record { rows = rows; cursor = declared (choice_of (window k.objects.records o) o s); outcome = gives [] }))))

-- OPEN
abbrev opened_with : Catalogue → Rows → Choice → Checked Step
opened_with k rows s = gone_to rows s (next_selected (through k s) s rows 0)

unfoldable pub opening : Catalogue → Rows → Cursor → Checked Step
opening k rows absent = refused cursor_state
opening k rows (declared s) = opened_with k rows s
opening k rows (on_row s i) = opened_with k rows s
opening k rows (ended s) = opened_with k rows s

-- NEXT
unfoldable pub nexting : Catalogue → Rows → Cursor → Checked Step
nexting k rows absent = refused cursor_state
nexting k rows (declared s) = refused cursor_state
nexting k rows (on_row s i) = gone_to rows s (next_selected (through k s) s rows (suc i))
nexting k rows (ended s) = gone_to rows s None

-- FETCH, FETCH NEXT: the declared cells of a row in the row form, if they fit the length that is expected
unfoldable pub fetched : Choice → Row → Bytes
fetched s r = encoded (map (cell r) s.columns)

abbrev pub fitted : Rows → Choice → ℕ → ℕ → Bytes → Checked Step
fitted rows s i le bytes =
    unless (nat_le (length bytes) le) (le_short (length bytes))
    (passed (record { rows = rows; cursor = on_row s i; outcome = gives bytes }))

abbrev pub giving : Window → Rows → Choice → ℕ → ℕ → Checked Step
giving w rows s i le = fitted rows s i le (fetched s (slice_index_or (rows_behind rows w) i []))

unfoldable pub fetching : Catalogue → Id → Rows → Cursor → ℕ → Checked Step
fetching k u rows absent le = refused cursor_state
fetching k u rows (declared s) le = refused cursor_state
fetching k u rows (on_row s i) le =
    unless (may k.privileges.records u s.object (λ r. r.select)) not_allowed
    (giving (through k s) rows s i le)
fetching k u rows (ended s) le = refused cursor_state

abbrev pub giving_next : Window → Rows → Choice → ℕ → Option ℕ → Checked Step
giving_next w rows s le None = gone_to rows s None
giving_next w rows s le (Some i) = giving w rows s i le

unfoldable pub fetching_next : Catalogue → Id → Rows → Cursor → ℕ → Checked Step
fetching_next k u rows absent le = refused cursor_state
fetching_next k u rows (declared s) le = refused cursor_state
fetching_next k u rows (on_row s i) le =
    unless (may k.privileges.records u s.object (λ r. r.select)) not_allowed
    (giving_next (through k s) rows s le (next_selected (through k s) s rows (suc i)))
fetching_next k u rows (ended s) le =
    unless (may k.privileges.records u s.object (λ r. r.select)) not_allowed
    (gone_to rows s None)

-- a string for a column of a row, and the place where the command names the column
pub record Write : Type 0 where
  pub to : Placed
  pub named : ℕ
  pub string : Parameter

-- the first string that is over its column's length
abbrev pub first_long : List Write → Option ℕ
first_long [] = None
first_long (w ∷ ws) = cond (nat_le (length w.string.bytes) w.to.column.longest) (first_long ws) (Some w.string.place)

-- the first string of a unique column that is level with another row's
abbrev pub is_level : Ordering → Bool
is_level Less = false
is_level Equal = true
is_level Greater = false

unfoldable pub clashes : Write → Row → Bool
clashes w r = w.to.column.unique && is_level (compared w.to.column w.string.bytes (cell r w.to.number))

abbrev pub first_repeated : List Row → List Write → Option ℕ
first_repeated rows [] = None
first_repeated rows (w ∷ ws) = cond (any (clashes w) rows) (Some w.string.place) (first_repeated rows ws)

-- INSERT: a string for each column, in their order; the row goes to the end
abbrev pub row_writes : ℕ → List Column → List Parameter → List Write
row_writes n [] ps = []
row_writes n (c ∷ cs) [] = []
row_writes n (c ∷ cs) (p ∷ ps) = record { to = record { number = n; column = c }; named = p.place; string = p } ∷ row_writes (suc n) cs ps

abbrev pub strings_of : List Parameter → Row
strings_of ps = map (λ p. p.bytes) ps

unfoldable pub inserting : Catalogue → Id → Rows → Cursor → Parameter → ℕ → List Parameter → Checked Step
inserting k u rows cursor name count strings =
    with_found (table_named k.objects.records name.bytes) (missing name.place) (λ t.
    unless (may k.privileges.records u t (λ r. r.insert)) not_allowed
    (unless (length strings == length (columns_in t.definition)) (foreign count)
    (unless_at (first_long (row_writes 0 (columns_in t.definition) strings)) too_long
    (unless_at (first_repeated (rows name.bytes) (row_writes 0 (columns_in t.definition) strings)) repeated
    (unless (appends (limit_of t.kind) (rows name.bytes) (strings_of strings)) store_refuses
    (passed (record {
      rows = with_rows rows name.bytes (rows name.bytes ++ (strings_of strings ∷ []));
      cursor = cursor;
      outcome = gives [];
    })))))))

-- UPDATE: columns that the cursor's object shows, each with a string
abbrev write_of : Option Placed → Parameter → Parameter → Option Write
write_of None c s = None
write_of (Some p) c s = Some (record { to = p; named = c.place; string = s })

abbrev pub writes_of : (Bytes → Option Placed) → List Parameter → List (Option Write)
writes_of find [] = []
writes_of find (c ∷ []) = []
writes_of find (c ∷ (s ∷ ps)) = write_of (find c.bytes) c s ∷ writes_of find ps

abbrev pub assigned_columns : List Parameter → List Parameter
assigned_columns [] = []
assigned_columns (c ∷ []) = []
assigned_columns (c ∷ (s ∷ ps)) = c ∷ assigned_columns ps

-- Through a view no unique column is written, and none that a condition of any view of that table tests.
abbrev pub tests_column : Window → ℕ → Bool
tests_column w n = any (λ q. nat_eq n q.on.number) w.tests

abbrev pub tested_in : List Object → Option Bytes → ℕ → Bool
tested_in os None n = false
tested_in os (Some t) n = any (λ o. over_table t o && tests_column (window os o) n) os

abbrev pub first_barred : List Object → Window → List Write → Option ℕ
first_barred os w [] = None
first_barred os w (x ∷ xs) = cond (x.to.column.unique || tested_in os w.table x.to.number) (Some x.named) (first_barred os w xs)

abbrev pub barred_at : List Object → Object → List Write → Option ℕ
barred_at os o ws = cond (is_table o) None (first_barred os (window os o) ws)

-- each cell is a string of the command, or of the old row
abbrev pub written : List Write → Row → Row
written [] r = r
written (w ∷ ws) r = slice_set (written ws r) w.to.number w.string.bytes

abbrev pub with_rows_behind : Rows → Option Bytes → List Row → Rows
with_rows_behind rows None rs = rows
with_rows_behind rows (Some t) rs = with_rows rows t rs

abbrev pub updated : Catalogue → Rows → Choice → ℕ → List Row → List Write → Checked Step
updated k rows s i rs ws =
    unless_at (barred_at k.objects.records s.object ws) barred
    (unless_at (first_long ws) too_long
    (unless_at (first_repeated (remove rs i) ws) repeated
    (unless (replaces rs i (written ws (slice_index_or rs i []))) store_refuses
    (passed (record {
      rows = with_rows_behind rows (through k s).table (slice_set rs i (written ws (slice_index_or rs i [])));
      cursor = on_row s i;
      outcome = gives [];
    })))))

unfoldable pub updating : Catalogue → Id → Rows → Cursor → List Parameter → Checked Step
updating k u rows absent ps = refused cursor_state
updating k u rows (declared s) ps = refused cursor_state
updating k u rows (on_row s i) ps =
    unless (may k.privileges.records u s.object (λ r. r.update)) not_allowed
    (unless_at (first_foreign (through k s) (assigned_columns ps)) foreign
    (updated k rows s i (rows_behind rows (through k s)) (somes (writes_of (shown_column (through k s)) ps))))
updating k u rows (ended s) ps = refused cursor_state

-- DELETE: the row goes, and the cursor moves to the next selected one
abbrev pub deleted : Window → Rows → Choice → ℕ → Checked Step
deleted w rows s i = gone_to rows s (next_selected w s rows i)

unfoldable pub deleting : Catalogue → Id → Rows → Cursor → Checked Step
deleting k u rows absent = refused cursor_state
deleting k u rows (declared s) = refused cursor_state
deleting k u rows (on_row s i) =
    unless (may k.privileges.records u s.object (λ r. r.delete)) not_allowed
    (unless (removes (rows_behind rows (through k s)) i) store_refuses
    (deleted (through k s) (with_rows_behind rows (through k s).table (remove (rows_behind rows (through k s)) i)) s i))
deleting k u rows (ended s) = refused cursor_state
