-- What a card makes of a command: its bytes, and the length of the answer area.
use Rattle.std.specs.Prelude.{◌≡◌, ℕ, zero, suc, min, Bool, true, false, cond, ◌&&◌, List, [], ◌∷◌, is_some, Some, None, Ok, Err, codes, Option, Result, ◌==◌, nat_lt}
use Rattle.apdu.specs.declared.envelope.EnvelopeFault.{EnvelopeFault}
use Rattle.apdu.specs.declared.envelope.EnvelopeFault.TheVariants.{Area, NoApdu, Class, Instruction, P1, P2, Shape}
use Rattle.apdu.specs.declared.operation.Operation.{Operation}
use Rattle.apdu.specs.declared.operation.Operation.TheVariants as operation
use Rattle.apdu.specs.Envelope.{Opened, opened}
use Rattle.fields.specs.declared.reader.FieldFault.{FieldFault}
use Rattle.fields.specs.Reader.{Parameter}
use Rattle.commands.specs.Command.{Parsed, present_user, create_user, create_table, create_view, drop_table, drop_view, grant, revoke, declare_cursor, open_cursor, next_row, fetch, fetch_next, insert, update, delete_row}
use Rattle.commands.specs.Parse.{command_of, parsed}
use Rattle.cardmodel.specs.State.{Bytes, Id, Register, database_owner, User, absent, Card}
use Rattle.cardmodel.specs.Rights.{known}
use Rattle.cardmodel.specs.Verdict.{Checked, refused, passed, unless, gives, Verdict, Cause, Reply, card_after, reply_of, area_short, no_command, class_unknown, instruction_unknown, p1_unknown, p2_unknown, shape_wrong, nobody_present, form_broken, missing}
use Rattle.cardmodel.specs.CatalogueRules.{Alteration, altered, creating_user, creating_table, creating_view, dropping_table, dropping_view, granting, revoking}
use Rattle.cardmodel.specs.CursorRules.{Step, moved, declaring, opening, nexting, fetching, fetching_next, inserting, updating, deleting}

abbrev envelope_cause : EnvelopeFault → Cause
envelope_cause Area = area_short
envelope_cause NoApdu = no_command
envelope_cause Class = class_unknown
envelope_cause Instruction = instruction_unknown
envelope_cause P1 = p1_unknown
envelope_cause P2 = p2_unknown
envelope_cause Shape = shape_wrong

-- PRESENT USER: a registered id becomes the current user, and the cursor is dropped
unfoldable pub presenting : Card → Parameter → Verdict
presenting c id =
    unless (is_some (known c.catalogue.users.records id.bytes)) (missing id.place)
    (passed (record { card = record { catalogue = c.catalogue; rows = c.rows; current = Some id.bytes; cursor = absent }; outcome = gives [] }))

-- what is made of the catalogue, and of rows and cursor, is made of the card
abbrev pub altering : Card → Checked Alteration → Verdict
altering c (refused x) = refused x
altering c (passed a) = passed (record { card = altered c a; outcome = gives [] })

abbrev pub stepping : Card → Checked Step → Verdict
stepping c (refused x) = refused x
stepping c (passed s) = passed (record { card = moved c s; outcome = s.outcome })

-- a command of a user
abbrev pub obeyed : Card → Id → Parsed → Verdict
obeyed c u (present_user id) = presenting c id
obeyed c u (create_user id profile) = altering c (creating_user c.catalogue u id profile)
obeyed c u (create_table name definition columns limit) = altering c (creating_table c.catalogue u name definition limit)
obeyed c u (create_view name definition s) = altering c (creating_view c.catalogue u name definition s)
obeyed c u (drop_table name) = altering c (dropping_table c.catalogue u name)
obeyed c u (drop_view name) = altering c (dropping_view c.catalogue u name)
obeyed c u (grant p) = altering c (granting c.catalogue u p)
obeyed c u (revoke p) = altering c (revoking c.catalogue u p)
obeyed c u (declare_cursor s) = stepping c (declaring c.catalogue u c.rows s)
obeyed c u open_cursor = stepping c (opening c.catalogue c.rows c.cursor)
obeyed c u next_row = stepping c (nexting c.catalogue c.rows c.cursor)
obeyed c u (fetch le) = stepping c (fetching c.catalogue u c.rows c.cursor le)
obeyed c u (fetch_next le) = stepping c (fetching_next c.catalogue u c.rows c.cursor le)
obeyed c u (insert table count strings row) = stepping c (inserting c.catalogue u c.rows c.cursor table count strings)
obeyed c u (update assignments) = stepping c (updating c.catalogue u c.rows c.cursor assignments)
obeyed c u delete_row = stepping c (deleting c.catalogue u c.rows c.cursor)

abbrev pub in_field : Card → Id → Result Parsed FieldFault → Verdict
in_field c u (Err f) = refused (form_broken f.place)
in_field c u (Ok command) = obeyed c u command

-- Somebody must be present for all but PRESENT USER; that is tested before the field is read.
abbrev pub presents : Operation → Bool
presents operation.PresentUser = true
presents operation.CreateUser = false
presents operation.CreateTable = false
presents operation.CreateView = false
presents operation.DropTable = false
presents operation.DropView = false
presents operation.Grant = false
presents operation.Revoke = false
presents operation.DeclareCursor = false
presents operation.Open = false
presents operation.Next = false
presents operation.Fetch = false
presents operation.FetchNext = false
presents operation.Insert = false
presents operation.Update = false
presents operation.Delete = false

abbrev pub of_user : Card → Option Id → Opened → Verdict
of_user c (Some u) o = in_field c u (command_of o.operation o.field o.le)
of_user c None o = unless (presents o.operation) nobody_present (in_field c [] (command_of o.operation o.field o.le))

abbrev pub in_envelope : Card → Result Opened EnvelopeFault → Verdict
in_envelope c (Err f) = refused (envelope_cause f)
in_envelope c (Ok o) = of_user c c.current o

-- One command, as it is sent: its bytes, and the length of the area for its answer.
pub record Sent : Type 0 where
  pub bytes : Bytes
  pub area : ℕ

-- THE VERDICT on a command: the first cause that applies, or the card and the answer that it makes
unfoldable pub verdict : Card → Sent → Verdict
verdict c m = in_envelope c (opened m.bytes m.area)

abbrev pub after : Card → Sent → Card
after c m = card_after c (verdict c m)

abbrev pub reply : Card → Sent → Reply
reply c m = reply_of (verdict c m)

-- a command that gets no cause is accepted
abbrev pub is_accepted : Reply → Bool
is_accepted r = r.cause == 0

-- the bytes are PRESENT USER with this id
pub record Presents (m : Sent) (u : Id) : Type 0 where
  pub id : Parameter
  pub said : parsed m.bytes m.area ≡ Ok (present_user id)
  pub named : id.bytes ≡ u

-- nobody is presented: the command is no PRESENT USER that is accepted
abbrev pub PresentsNobody : Card → Sent → Type 0
PresentsNobody c m = (u : Id) → Presents m u → is_accepted (reply c m) ≡ false

-- a list of commands: the card at its end, and the replies on the way
abbrev pub run : Card → List Sent → Card
run c [] = c
run c (m ∷ ms) = run (after c m) ms

abbrev pub replies : Card → List Sent → List Reply
replies c [] = []
replies c (m ∷ ms) = reply c m ∷ replies (after c m) ms

-- how many records each register takes in all; more than 64 counts as 64
pub record Capacities : Type 0 where
  pub users : ℕ
  pub objects : ℕ
  pub privileges : ℕ

abbrev pub at_most_64 : ℕ → ℕ
at_most_64 n = min n 64

abbrev empty : {A : Type 0} → ℕ → Register A
empty n = record { records = []; space = at_most_64 n }

abbrev card_with : Register User → Capacities → ℕ → Card
card_with users z free = record {
  catalogue = record { users = users; objects = empty z.objects; privileges = empty z.privileges; free = free };
  rows = λ t. [];
  current = None;
  cursor = absent;
}

abbrev owner : User
owner = record { id = codes "OWNER"; rank = database_owner; creator = codes "OWNER" }

abbrev owner_first : ℕ → Register User
owner_first zero = record { records = []; space = 0 }
owner_first (suc n) = record { records = owner ∷ []; space = n }

-- A new card: so many rows, at most 65,535, and so many records in each register. OWNER is registered as DB_O, by
-- itself, if there is space for a user.
abbrev pub new_card : ℕ → Capacities → Card
new_card rows z = card_with (owner_first (at_most_64 z.users)) z (min rows 65535)

-- A card with nobody registered, over a store with so many free rows.
abbrev pub closed_card : ℕ → Capacities → Card
closed_card free z = card_with (empty z.users) z free

-- ISSUING a blank card over a store: the check says yes exactly if the store has no table and there is space for a user.
abbrev pub may_issue : Bool → Capacities → Bool
may_issue store_empty z = store_empty && nat_lt 0 z.users

-- After a yes it is a new card, and after a no one with nobody registered, whatever the store holds.
abbrev pub issued : Bool → ℕ → Capacities → Card
issued store_empty free z = cond (may_issue store_empty z) (new_card free z) (closed_card free z)
