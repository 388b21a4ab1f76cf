-- The state of a card: three registers, the free rows, the rows of each table, the current user and the cursor.
use Rattle.std.specs.Prelude.{ℕ, Bool, List, Option}
use Rattle.text.specs.declared.operator.Operator.{Operator}
use Rattle.fields.specs.Column.{Column}

abbrev pub Bytes : Type 0
Bytes = List ℕ

-- the id of a user
abbrev pub Id : Type 0
Id = Bytes

-- a cell for each column of its table
abbrev pub Row : Type 0
Row = List Bytes

-- Records in order of adding, and how many more are taken.
pub record Register (A : Type 0) : Type 0 where
  pub records : List A
  pub space : ℕ

-- DB_O, DBOO and DBBU
pub data Rank : Type 0 where
  database_owner : Rank
  object_owner : Rank
  basic_user : Rank

pub record User : Type 0 where
  pub id : Id
  pub rank : Rank
  pub creator : Id

-- a table has a limit on its rows
pub data Kind : Type 0 where
  a_table : ℕ → Kind
  a_view : Kind

-- An object keeps its definition as the bytes of the command that created it.
pub record Object : Type 0 where
  pub name : Bytes
  pub owner : Id
  pub kind : Kind
  pub definition : Bytes

pub record Rights : Type 0 where
  pub insert : Bool
  pub select : Bool
  pub update : Bool
  pub delete : Bool

pub data Grantee : Type 0 where
  all_users : Grantee
  user : Id → Grantee

pub record Privilege : Type 0 where
  pub object : Bytes
  pub grantee : Grantee
  pub rights : Rights
  pub owner : Id

-- the registers and the free rows
pub record Catalogue : Type 0 where
  pub users : Register User
  pub objects : Register Object
  pub privileges : Register Privilege
  pub free : ℕ

-- the rows of each table, by its name
abbrev pub Rows : Type 0
Rows = Bytes → List Row

-- a column of a table, with its number
pub record Placed : Type 0 where
  pub number : ℕ
  pub column : Column

-- a condition
pub record Test : Type 0 where
  pub on : Placed
  pub operator : Operator
  pub string : Bytes

-- what a cursor was declared with: an object, columns to fetch, and conditions of its own
pub record Choice : Type 0 where
  pub object : Object
  pub columns : List ℕ
  pub tests : List Test

-- the place is that of the row in its table
pub data Cursor : Type 0 where
  absent : Cursor
  declared : Choice → Cursor
  on_row : Choice → ℕ → Cursor
  ended : Choice → Cursor

pub record Card : Type 0 where
  pub catalogue : Catalogue
  pub rows : Rows
  pub current : Option Id
  pub cursor : Cursor
