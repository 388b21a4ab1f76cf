-- What every card keeps that commands can make of a new one.
use Rattle.std.specs.Prelude.{◌≡◌, ℕ, suc, ◌+◌, ◌<◌, ◌≤◌, Bool, true, false, List, [], ◌∷◌, length, is_some, Some, None, sum_by, Option, slice_index, slice_index_or}
use Rattle.std.specs.List.{AllByRecursion}
use Rattle.fields.specs.declared.entries.Entry.TheVariants.{Definition}
use Rattle.fields.specs.Column.{Column}
use Rattle.fields.specs.Entries.{entries_at}
use Rattle.fields.specs.Reader.{got}
use Rattle.commands.specs.Parsers.{selection_at}
use Rattle.cardmodel.specs.Lists.{any, all}
use Rattle.cardmodel.specs.State.{Bytes, Id, Row, Register, User, Kind, a_table, a_view, Object, Privilege, Catalogue, Rows, Placed, Choice, Cursor, absent, declared, on_row, ended, Card}
use Rattle.cardmodel.specs.Objects.{is_table, limit_of, named, object_named, table_named, columns_in, selection_in, Window, window, shows, cell, compared, meets, rows_behind}
use Rattle.cardmodel.specs.Rights.{same_id, admitted, within, some_right, reaches, known, grantee_known}
use Rattle.cardmodel.specs.Storing.{table_count}
use Rattle.cardmodel.specs.CatalogueRules.{row_sum, first_foreign, names_in, is_privilege}
use Rattle.cardmodel.specs.CursorRules.{is_level, through}
use Rattle.cardmodel.specs.Answer.{Capacities, at_most_64}

-- no two of a list are alike
abbrev pub Apart : {A : Type 0} → (A → A → Bool) → List A → Type 0
Apart alike [] = Unit {0}
Apart alike (x ∷ xs) = (any (alike x) xs ≡ false) × Apart alike xs

abbrev pub one_name : Object → Object → Bool
one_name x y = named x.name y

abbrev pub one_id : User → User → Bool
one_id x y = same_id y.id x.id

abbrev pub one_privilege : Privilege → Privilege → Bool
one_privilege x y = is_privilege x.object x.grantee y

-- columns with their numbers
abbrev pub placed : ℕ → List Column → List Placed
placed n [] = []
placed n (c ∷ cs) = record { number = n; column = c } ∷ placed (suc n) cs

-- A TABLE: its definition is a count and as many columns of different names, and nothing else; its longest row can be
-- stored; and its limit is one that a store allows.
pub record TableFormed (definition : Bytes) (limit : ℕ) : Type 0 where
  pub least : 1 ≤ slice_index definition 0
  pub most : slice_index definition 0 ≤ 12
  pub reads : entries_at Definition definition 1 0 1 (slice_index definition 0) ≡ got (slice_index definition 0) (length definition)
  pub short : length definition ≤ 200
  pub storable : row_sum (columns_in definition) ≤ 240
  pub limit_least : 1 ≤ limit
  pub limit_most : limit ≤ 255

-- A VIEW: its definition is a selection, and nothing else; its table stands and has its owner; and all that it names
-- are columns of that table.
pub record ViewFormed (os : List Object) (owner : Id) (definition : Bytes) : Type 0 where
  pub reads : selection_at definition 0 ≡ got (selection_in definition) (length definition)
  pub short : length definition ≤ 200
  pub table : Object
  pub stands : table_named os (selection_in definition).source.bytes ≡ Some table
  pub owned : table.owner ≡ owner
  pub columns : first_foreign (window os table) (names_in (selection_in definition)) ≡ None

abbrev pub Formed : List Object → Object → Type 0
Formed os o = OfKind o.kind
  where
    OfKind : Kind → Type 0
    OfKind (a_table limit) = TableFormed o.definition limit
    OfKind a_view = ViewFormed os o.owner o.definition

-- A ROW has one cell for each column, within its longest length.
abbrev pub RowOf : List Column → Row → Type 0
RowOf [] [] = Unit {0}
RowOf [] (x ∷ r) = ⊥
RowOf (c ∷ cs) [] = ⊥
RowOf (c ∷ cs) (x ∷ r) = (length x ≤ c.longest) × RowOf cs r

-- two rows are level in a column
abbrev pub level_at : Placed → Row → Row → Bool
level_at p x y = is_level (compared p.column (cell x p.number) (cell y p.number))

-- a unique column holds no value twice
abbrev pub UniqueIn : List Row → Placed → Type 0
UniqueIn rs p = p.column.unique ≡ true → Apart (level_at p) rs

-- THE ROWS of a table: at most its limit, of its columns, and unique where they must be
pub record RowsFormed (o : Object) (rs : List Row) : Type 0 where
  pub within_limit : length rs ≤ limit_of o.kind
  pub cells : AllByRecursion (RowOf (columns_in o.definition)) rs
  pub unique : AllByRecursion (UniqueIn rs) (placed 0 (columns_in o.definition))

abbrev pub RowsOf : Rows → Object → Type 0
RowsOf rows o = is_table o ≡ true → RowsFormed o (rows o.name)

-- A PRIVILEGE: its object stands and has its owner, its grantee is known, and its rights are admitted, and some.
pub record Granted (k : Catalogue) (p : Privilege) : Type 0 where
  pub object : Object
  pub stands : object_named k.objects.records p.object ≡ Some object
  pub owned : object.owner ≡ p.owner
  pub grantee : grantee_known k.users.records p.grantee ≡ true
  pub admits : within p.rights (admitted object.kind) ≡ true
  pub some : some_right p.rights ≡ true

-- THE CURSOR: its object stands and is reached, and shows the columns that are fetched and tested; its place is a row
-- that the object shows.
pub record Chosen (k : Catalogue) (u : Id) (s : Choice) : Type 0 where
  pub stands : object_named k.objects.records s.object.name ≡ Some s.object
  pub reached : reaches k.privileges.records u s.object ≡ true
  pub columns : all (shows (through k s)) s.columns ≡ true
  pub tests : all (λ q. shows (through k s) q.on.number) s.tests ≡ true

pub record StandsAt (rs : List Row) (w : Window) (i : ℕ) : Type 0 where
  pub place : i < length rs
  pub shown : meets w (slice_index_or rs i []) ≡ true

abbrev pub Pointed : Catalogue → Option Id → Rows → Cursor → Type 0
Pointed k None rows absent = Unit {0}
Pointed k None rows (declared s) = ⊥
Pointed k None rows (on_row s i) = ⊥
Pointed k None rows (ended s) = ⊥
Pointed k (Some u) rows absent = Unit {0}
Pointed k (Some u) rows (declared s) = Chosen k u s
Pointed k (Some u) rows (on_row s i) = Chosen k u s × StandsAt (rows_behind rows (through k s)) (through k s) i
Pointed k (Some u) rows (ended s) = Chosen k u s

abbrev pub Registered : List User → Option Id → Type 0
Registered us None = Unit {0}
Registered us (Some u) = is_some (known us u) ≡ true

-- a register takes so many records in all
abbrev pub Sized : {A : Type 0} → Register A → ℕ → Type 0
Sized r n = r.space + length r.records ≡ at_most_64 n

-- A SOUND CARD, with memory for so many rows and registers of such capacities.
pub record Sound (total : ℕ) (z : Capacities) (c : Card) : Type 0 where
  -- names are unique over tables and views, ids among users, and a grantee has one privilege on an object
  pub names : Apart one_name c.catalogue.objects.records
  pub ids : Apart one_id c.catalogue.users.records
  pub pairs : Apart one_privilege c.catalogue.privileges.records
  -- each object is well formed, each privilege holds of what stands
  pub objects : AllByRecursion (Formed c.catalogue.objects.records) c.catalogue.objects.records
  pub privileges : AllByRecursion (Granted c.catalogue) c.catalogue.privileges.records
  -- the rows of tables, and none elsewhere
  pub rows : AllByRecursion (RowsOf c.rows) c.catalogue.objects.records
  pub elsewhere : (t : Bytes) → table_named c.catalogue.objects.records t ≡ None → c.rows t ≡ []
  -- at most sixteen tables; their limits and the free rows keep their sum; registers keep their size
  pub tables : table_count c.catalogue.objects.records ≤ 16
  pub sum : c.catalogue.free + sum_by (λ o. limit_of o.kind) c.catalogue.objects.records ≡ total
  pub users_sized : Sized c.catalogue.users z.users
  pub objects_sized : Sized c.catalogue.objects z.objects
  pub privileges_sized : Sized c.catalogue.privileges z.privileges
  -- the current user is registered, and the cursor stands where it may
  pub current : Registered c.catalogue.users.records c.current
  pub cursor : Pointed c.catalogue c.current c.rows c.cursor
