-- All that a parsed command holds is a part of the command, at the offset that is told for it; and a field's fault is
-- at a place in the data, or just past them.
use Rattle.std.specs.Prelude.{◌≡◌, ℕ, ◌+◌, ◌≤◌, List, [], ◌∷◌, length, take, drop, Ok, Err, Result, slice_index, slice_index_or}
use Rattle.fields.specs.Reader.{Parameter}
use Rattle.commands.specs.declared.parse.CommandFault.{CommandFault}
use Rattle.commands.specs.declared.parse.CommandFault.TheVariants.{Envelope, Field}
use Rattle.commands.specs.Command.{Parsed, Selected, Permitted, present_user, create_user, create_table, create_view, drop_table, drop_view, grant, revoke, declare_cursor, open_cursor, next_row, fetch, fetch_next, insert, update, delete_row}

-- bytes that stand in a command from an offset on
pub record Stands (bs : List ℕ) (at : ℕ) (part : List ℕ) : Type 0 where
  pub room : at + length part ≤ length bs
  pub bytes : part ≡ take (length part) (drop at bs)

-- a parameter: its length byte at its place, and its bytes behind that
pub record In (bs : List ℕ) (p : Parameter) : Type 0 where
  pub size : slice_index_or bs p.place 0 ≡ length p.bytes
  pub part : Stands bs (p.place + 1) p.bytes

abbrev pub AllIn : List ℕ → List Parameter → Type 0
AllIn bs [] = Unit {0}
AllIn bs (p ∷ ps) = In bs p × AllIn bs ps

abbrev pub SelectedIn : List ℕ → Selected → Type 0
SelectedIn bs s = In bs s.source × AllIn bs s.columns × AllIn bs s.conditions

abbrev pub PermittedIn : List ℕ → Permitted → Type 0
PermittedIn bs p = In bs p.object × In bs p.grantee

-- every parameter of a command; a presented id stands bare, from offset 5 on
abbrev pub Holds : List ℕ → Parsed → Type 0
Holds bs (present_user id) = Stands bs id.place id.bytes × (id.place ≡ 5)
Holds bs (create_user id profile) = In bs id
Holds bs (create_table name definition columns limit) = In bs name × AllIn bs columns
Holds bs (create_view name definition s) = In bs name × SelectedIn bs s
Holds bs (drop_table name) = In bs name
Holds bs (drop_view name) = In bs name
Holds bs (grant p) = PermittedIn bs p
Holds bs (revoke p) = PermittedIn bs p
Holds bs (declare_cursor s) = SelectedIn bs s
Holds bs open_cursor = Unit {0}
Holds bs next_row = Unit {0}
Holds bs (fetch le) = Unit {0}
Holds bs (fetch_next le) = Unit {0}
Holds bs (insert table count strings row) = In bs table × AllIn bs strings
Holds bs (update assignments) = AllIn bs assignments
Holds bs delete_row = Unit {0}

abbrev pub Inside : List ℕ → Result Parsed CommandFault → Type 0
Inside bs (Ok c) = Holds bs c
Inside bs (Err (Envelope f)) = Unit {0}
Inside bs (Err (Field f)) = (f.place ≤ 5 + slice_index bs 4) × (f.place ≤ length bs)
