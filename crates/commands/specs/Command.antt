-- What a command says, as the rules see it.
use Rattle.std.specs.Prelude.{ℕ, List}
use Rattle.commands.specs.declared.command.Command.{Command}
use Rattle.commands.specs.declared.command.Command.TheVariants as code
use Rattle.commands.specs.declared.command.Selection.{Selection}
use Rattle.commands.specs.declared.command.Permission.{Permission}
use Rattle.commands.specs.declared.command.Profile.{Profile}
use Rattle.commands.specs.declared.command.Right.{Right}
use Rattle.fields.specs.Reader.{Parameter, parameter, listed}

-- an object, columns of it, and conditions: for each a column, an operator's code and a string
pub record Selected : Type 0 where
  pub source : Parameter
  pub columns : List Parameter
  pub conditions : List Parameter

-- a right, the place of its code, an object and a grantee
pub record Permitted : Type 0 where
  pub place : ℕ
  pub right : Right
  pub object : Parameter
  pub grantee : Parameter

pub data Parsed : Type 0 where
  -- the id
  present_user : Parameter → Parsed
  create_user : Parameter → Profile → Parsed
  -- name, definition, columns and limit
  create_table : Parameter → List ℕ → List Parameter → ℕ → Parsed
  -- name, definition and what it selects
  create_view : Parameter → List ℕ → Selected → Parsed
  drop_table : Parameter → Parsed
  drop_view : Parameter → Parsed
  grant : Permitted → Parsed
  revoke : Permitted → Parsed
  declare_cursor : Selected → Parsed
  open_cursor : Parsed
  next_row : Parsed
  -- the length that is expected
  fetch : ℕ → Parsed
  fetch_next : ℕ → Parsed
  -- table, place of the count, strings, and the row that they make
  insert : Parameter → ℕ → List Parameter → List ℕ → Parsed
  -- columns and strings in turn
  update : List Parameter → Parsed
  delete_row : Parsed

-- what the code's command says
abbrev pub selected : Selection → Selected
selected s = record { source = parameter s.source; columns = listed s.columns; conditions = listed s.conditions }

abbrev pub permitted : Permission → Permitted
permitted p = record { place = p.place; right = p.right; object = parameter p.object; grantee = parameter p.grantee }

abbrev pub said : Command → Parsed
said (code.PresentUser id) = present_user (parameter id)
said (code.CreateUser id profile) = create_user (parameter id) profile
said (code.CreateTable name definition columns limit) = create_table (parameter name) definition.now (listed columns) limit
said (code.CreateView name definition selection) = create_view (parameter name) definition.now (selected selection)
said (code.DropTable name) = drop_table (parameter name)
said (code.DropView name) = drop_view (parameter name)
said (code.Grant p) = grant (permitted p)
said (code.Revoke p) = revoke (permitted p)
said (code.DeclareCursor selection) = declare_cursor (selected selection)
said code.Open = open_cursor
said code.Next = next_row
said (code.Fetch le) = fetch le
said (code.FetchNext le) = fetch_next le
said (code.Insert table count strings row) = insert (parameter table) count (listed strings) row.now
said (code.Update assignments) = update (listed assignments)
said code.Delete = delete_row
