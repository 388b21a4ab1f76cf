-- What the data of each operation say: parameters from left to right, up to the first that breaks its form.
use Rattle.std.specs.Prelude.{ℕ, ◌*◌, Bool, cond, ◌&&◌, ◌||◌, List, [], length, drop, Some, None, Ok, Err, Option, Result, ◌==◌, nat_lt, slice_index, slice_range}
use Rattle.text.specs.Identifier.{identifies}
use Rattle.fields.specs.declared.reader.FieldFault.{FieldFault}
use Rattle.fields.specs.declared.entries.Entry.{Entry}
use Rattle.fields.specs.declared.entries.Entry.TheVariants.{Name, Definition, Assignment, Condition, Text}
use Rattle.fields.specs.Reader.{Read, got, broken, and_then, or_broken, Parameter, parameters, param_at, count_at, identifier_at, byte_at}
use Rattle.fields.specs.Entries.{entries_at}
use Rattle.commands.specs.declared.command.Command.{Command}
use Rattle.commands.specs.declared.command.Right.{Right}
use Rattle.commands.specs.Codes.{profile_of, right_of}
use Rattle.commands.specs.Command.{Parsed, Selected, Permitted, said, present_user, create_user, create_table, create_view, declare_cursor, insert, update}

-- a fault at a place
abbrev pub fault : {X : Type 0} → ℕ → Result X FieldFault
fault p = Err (record { place = p })

-- goes on behind what was read, and ends at a fault
abbrev pub or_fault : {X Y : Type 0} → Read X → (X → ℕ → Result Y FieldFault) → Result Y FieldFault
or_fault (got x q) k = k x q
or_fault (broken p) k = fault p

abbrev pub or_else : {X Y : Type 0} → Option X → ℕ → (X → Result Y FieldFault) → Result Y FieldFault
or_else (Some x) p k = k x
or_else None p k = fault p

-- nothing may be left over
abbrev pub ended : {X : Type 0} → List ℕ → ℕ → X → Result X FieldFault
ended bs at x = cond (nat_lt at (length bs)) (fault at) (Ok x)

-- PRESENT USER: a bare id
abbrev pub present_user_of : List ℕ → Result Parsed FieldFault
present_user_of bs = cond (identifies (drop 5 bs)) (Ok (present_user (record { place = 5; bytes = drop 5 bs }))) (fault 5)

-- CREATE USER: an id and the text of a profile
abbrev pub create_user_of : List ℕ → Result Parsed FieldFault
create_user_of bs =
    or_fault (identifier_at bs 5) (λ id p. or_fault (param_at bs p) (λ text q. or_else (profile_of text.bytes) p (λ profile. ended bs q (create_user id profile))))

-- a command that says what was read
abbrev pub saying : {X : Type 0} → Result X FieldFault → (X → Parsed) → Result Parsed FieldFault
saying (Ok x) k = Ok (k x)
saying (Err f) k = Err f

-- DROP TABLE, DROP VIEW: a name
unfoldable pub only_name : List ℕ → Result Parameter FieldFault
only_name bs = or_fault (identifier_at bs 5) (λ name p. ended bs p name)

abbrev pub name_of : List ℕ → (Parameter → Parsed) → Result Parsed FieldFault
name_of bs k = saying (only_name bs) k

-- how many parameters so many entries are
abbrev pub parameters_of : Entry → ℕ → ℕ
parameters_of Name n = n
parameters_of Definition n = n
parameters_of Assignment n = 2 * n
parameters_of Condition n = 3 * n
parameters_of Text n = n

-- conditions, which may be left out: a count of 0 to 4, and as many columns, operators and strings
unfoldable pub conditions_at : List ℕ → ℕ → Read (List Parameter)
conditions_at bs at =
    cond (nat_lt at (length bs))
    (and_then (count_at bs 0 4 at) (λ n p. and_then (entries_at Condition bs p 0 p n) (λ _ q. got (parameters bs p (3 * n)) q)))
    (got [] at)

-- a selection: an object, 0 to 12 different columns, and conditions
unfoldable pub selection_at : List ℕ → ℕ → Read Selected
selection_at bs at =
    and_then (identifier_at bs at) (λ source p. and_then (count_at bs 0 12 p) (λ n q. and_then (entries_at Name bs q 0 q n) (λ _ r.
    and_then (conditions_at bs r) (λ tests e. got (record { source = source; columns = parameters bs q n; conditions = tests }) e))))

-- DECLARE CURSOR: a selection
abbrev pub declare_cursor_of : List ℕ → Result Parsed FieldFault
declare_cursor_of bs = or_fault (selection_at bs 5) (λ s p. ended bs p (declare_cursor s))

-- CREATE VIEW: a name and a selection; the definition is the selection as it stands
abbrev pub create_view_of : List ℕ → Result Parsed FieldFault
create_view_of bs = or_fault (identifier_at bs 5) (λ name p. or_fault (selection_at bs p) (λ s q. ended bs q (create_view name (drop p bs) s)))

-- a table's limit, which may be left out: a parameter of one byte from 1 on, or 16
unfoldable pub limit_at : List ℕ → ℕ → Read ℕ
limit_at bs at =
    cond (nat_lt at (length bs))
    (and_then (byte_at bs at) (λ n q. cond (n == 0) (broken at) (got n q)))
    (got 16 at)

-- CREATE TABLE: a name, 1 to 12 different columns, and a limit; the definition is from the count to the last column
abbrev pub create_table_of : List ℕ → Result Parsed FieldFault
create_table_of bs =
    or_fault (identifier_at bs 5) (λ name p. or_fault (count_at bs 1 12 p) (λ n q. or_fault (entries_at Definition bs q 0 q n) (λ _ r. or_fault (limit_at bs r) (λ limit e.
    ended bs e (create_table name (slice_range bs p r) (parameters bs q n) limit)))))

-- GRANT, REVOKE: the code of a right, an object, and a grantee, an id or an asterisk
abbrev pub grants : List ℕ → Bool
grants text = identifies text || (length text == 1 && slice_index text 0 == 42)

unfoldable pub right_at : List ℕ → ℕ → Read Right
right_at bs at = and_then (byte_at bs at) (λ code q. or_broken (right_of code) at (λ r. got r q))

unfoldable pub grantee_at : List ℕ → ℕ → Read Parameter
grantee_at bs at = and_then (param_at bs at) (λ p q. cond (grants p.bytes) (got p q) (broken at))

unfoldable pub permission_at : List ℕ → Result Permitted FieldFault
permission_at bs =
    or_fault (right_at bs 5) (λ right p. or_fault (identifier_at bs p) (λ object q. or_fault (grantee_at bs q) (λ grantee e.
    ended bs e (record { place = 5; right = right; object = object; grantee = grantee }))))

abbrev pub permission_of : List ℕ → (Permitted → Parsed) → Result Parsed FieldFault
permission_of bs k = saying (permission_at bs) k

-- INSERT: a table, a count, and as many strings; from the count on they are the row as it is stored
abbrev pub insert_of : List ℕ → Result Parsed FieldFault
insert_of bs =
    or_fault (identifier_at bs 5) (λ table p. or_fault (count_at bs 0 255 p) (λ n q. or_fault (entries_at Text bs q 0 q n) (λ _ e.
    ended bs e (insert table p (parameters bs q n) (drop p bs)))))

-- UPDATE: 1 to 12 different columns, each with a string
abbrev pub update_of : List ℕ → Result Parsed FieldFault
update_of bs = or_fault (count_at bs 1 12 5) (λ n p. or_fault (entries_at Assignment bs p 0 p n) (λ _ e. ended bs e (update (parameters bs p (2 * n)))))

-- what the code's result says
abbrev pub told : Result Command FieldFault → Result Parsed FieldFault
told (Ok c) = Ok (said c)
told (Err f) = Err f
