-- Definitions say what the command said: a table's the columns, a view's the table, the columns and the conditions.
use Rattle.std.specs.Prelude.{◌≡◌, ℕ, List, map, Some, Ok}
use Rattle.fields.specs.Column.{column_of}
use Rattle.fields.specs.Reader.{Parameter}
use Rattle.commands.specs.Command.{Selected, create_table, create_view}
use Rattle.commands.specs.Parse.{parsed}
use Rattle.cardmodel.specs.State.{Bytes}
use Rattle.cardmodel.specs.Objects.{columns_in, selection_in}
use Rattle.cardmodel.specs.Answer.{Sent}

abbrev strings : List Parameter → List Bytes
strings ps = map (λ p. p.bytes) ps

pub record Says (s t : Selected) : Type 0 where
  pub source : s.source.bytes ≡ t.source.bytes
  pub columns : strings s.columns ≡ strings t.columns
  pub conditions : strings s.conditions ≡ strings t.conditions

abbrev pub DefinitionsSay : Type 0
DefinitionsSay =
    ((m : Sent) (name : Parameter) (definition : Bytes) (columns : List Parameter) (limit : ℕ) →
    parsed m.bytes m.area ≡ Ok (create_table name definition columns limit) →
    map Some (columns_in definition) ≡ map (λ p. column_of p.bytes) columns)
    × ((m : Sent) (name : Parameter) (definition : Bytes) (s : Selected) →
    parsed m.bytes m.area ≡ Ok (create_view name definition s) →
    Says (selection_in definition) s)
