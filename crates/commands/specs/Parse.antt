-- What the bytes of a command mean: a command, or the fault of the first layer that finds one.
use Rattle.std.specs.Prelude.{ℕ, List, Ok, Err, Result}
use Rattle.apdu.specs.declared.operation.Operation.TheVariants as operation
use Rattle.apdu.specs.declared.operation.Operation.{Operation}
use Rattle.apdu.specs.declared.envelope.EnvelopeFault.{EnvelopeFault}
use Rattle.apdu.specs.Envelope.{Opened, opened}
use Rattle.fields.specs.declared.reader.FieldFault.{FieldFault}
use Rattle.commands.specs.declared.command.Command.{Command}
use Rattle.commands.specs.declared.parse.CommandFault.{CommandFault}
use Rattle.commands.specs.declared.parse.CommandFault.TheVariants.{Envelope, Field}
use Rattle.commands.specs.Command.{Parsed, said, drop_table, drop_view, grant, revoke, open_cursor, next_row, fetch, fetch_next, delete_row}
use Rattle.commands.specs.Parsers.{present_user_of, create_user_of, create_table_of, create_view_of, name_of, permission_of, declare_cursor_of, insert_of, update_of}

-- an operation, its field and the length that is expected
abbrev pub command_of : Operation → List ℕ → ℕ → Result Parsed FieldFault
command_of operation.PresentUser bs le = present_user_of bs
command_of operation.CreateUser bs le = create_user_of bs
command_of operation.CreateTable bs le = create_table_of bs
command_of operation.CreateView bs le = create_view_of bs
command_of operation.DropTable bs le = name_of bs drop_table
command_of operation.DropView bs le = name_of bs drop_view
command_of operation.Grant bs le = permission_of bs grant
command_of operation.Revoke bs le = permission_of bs revoke
command_of operation.DeclareCursor bs le = declare_cursor_of bs
command_of operation.Open bs le = Ok open_cursor
command_of operation.Next bs le = Ok next_row
command_of operation.Fetch bs le = Ok (fetch le)
command_of operation.FetchNext bs le = Ok (fetch_next le)
command_of operation.Insert bs le = insert_of bs
command_of operation.Update bs le = update_of bs
command_of operation.Delete bs le = Ok delete_row

abbrev pub in_field : Result Parsed FieldFault → Result Parsed CommandFault
in_field (Ok c) = Ok c
in_field (Err f) = Err (Field f)

abbrev pub in_envelope : Result Opened EnvelopeFault → Result Parsed CommandFault
in_envelope (Ok o) = in_field (command_of o.operation o.field o.le)
in_envelope (Err f) = Err (Envelope f)

-- the meaning of a command's bytes, given with an answer area of so many bytes
abbrev pub parsed : List ℕ → ℕ → Result Parsed CommandFault
parsed bs area = in_envelope (opened bs area)

-- what the code's result says
abbrev pub understood : Result Command CommandFault → Result Parsed CommandFault
understood (Ok c) = Ok (said c)
understood (Err f) = Err f
