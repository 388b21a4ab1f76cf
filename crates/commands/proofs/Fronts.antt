-- What stands in the front of a command stands in the command; so all that a command holds is a part of it.
use Rattle.std.proofs.Common.{◌≡◌, ℕ, ◌+◌, ◌-◌, ◌≤◌, true, List, [], ◌∷◌, length, get_or, take, drop, Ok, Err, sym, refl, ap, ◌∙◌, subst, arith}
use Rattle.std.proofs.lemmas.List.{drop-take, take-take, get_or-take}
use Rattle.apdu.specs.declared.operation.Operation.{Operation}
use Rattle.apdu.specs.declared.operation.Operation.TheVariants as operation
use Rattle.apdu.specs.Operation.{carries_data}
use Rattle.apdu.specs.Envelope.{Within}
use Rattle.fields.specs.declared.reader.FieldFault.{FieldFault}
use Rattle.fields.specs.Reader.{Parameter}
use Rattle.commands.specs.Command.{Parsed, Selected, Permitted, present_user, create_user, create_table, create_view, drop_table, drop_view, grant, revoke, declare_cursor, open_cursor, next_row, fetch, fetch_next, insert, update, delete_row}
use Rattle.commands.specs.Parse.{command_of}
use Rattle.commands.proofs.Sure.{Safe}
use Rattle.commands.proofs.Parts.{safe_command}
use Rattle.commands.specs.Inside.{Stands, In, AllIn, SelectedIn, PermittedIn, Holds}

module _ (bs f : List ℕ) (front : f ≡ take (length f) bs) (inside : length f ≤ length bs) where
  stands : (at : ℕ) (part : List ℕ) → Stands f at part → Stands bs at part
  stands at part s = record {
    room = omega (arith, s.room);
    bytes =
        s.bytes ∙ ap (λ xs. take (length part) (drop at xs)) (front ∙ ap (λ n. take n bs) (omega (arith, s.room)))
        ∙ ap (take (length part)) (drop-take at (length f - at) bs) ∙ take-take (length part) (length f - at) (drop at bs) (omega (arith, s.room));
  }

  held : (p : Parameter) → In f p → In bs p
  held p h = record {
    size = sym (get_or-take (length f) bs p.place 0 (omega (arith, h.part.room))) ∙ ap (λ xs. get_or xs p.place 0) (sym front) ∙ h.size;
    part = stands (p.place + 1) p.bytes h.part;
  }

  all : (ps : List Parameter) → AllIn f ps → AllIn bs ps
  all [] h = tt
  all (p ∷ ps) h = (held p h.0, all ps h.1)

  selected : (s : Selected) → SelectedIn f s → SelectedIn bs s
  selected s h = (held s.source h.0, all s.columns h.1, all s.conditions h.2)

  permitted : (p : Permitted) → PermittedIn f p → PermittedIn bs p
  permitted p h = (held p.object h.0, held p.grantee h.1)

  pub holds : (c : Parsed) → Holds f c → Holds bs c
  holds (present_user id) h = (stands id.place id.bytes h.0, h.1)
  holds (create_user id profile) h = held id h
  holds (create_table name definition columns limit) h = (held name h.0, all columns h.1)
  holds (create_view name definition s) h = (held name h.0, selected s h.1)
  holds (drop_table name) h = held name h
  holds (drop_view name) h = held name h
  holds (grant p) h = permitted p h
  holds (revoke p) h = permitted p h
  holds (declare_cursor s) h = selected s h
  holds open_cursor h = tt
  holds next_row h = tt
  holds (fetch le) h = tt
  holds (fetch_next le) h = tt
  holds (insert table count strings row) h = (held table h.0, all strings h.1)
  holds (update assignments) h = all assignments h
  holds delete_row h = tt

-- only an operation with data has a fault in its field
fault_has_data : (o : Operation) (f : List ℕ) (le : ℕ) (e : FieldFault) → Err e ≡ command_of o f le → carries_data o ≡ true
fault_has_data operation.PresentUser f le e h = refl
fault_has_data operation.CreateUser f le e h = refl
fault_has_data operation.CreateTable f le e h = refl
fault_has_data operation.CreateView f le e h = refl
fault_has_data operation.DropTable f le e h = refl
fault_has_data operation.DropView f le e h = refl
fault_has_data operation.Grant f le e h = refl
fault_has_data operation.Revoke f le e h = refl
fault_has_data operation.DeclareCursor f le e h = refl
fault_has_data operation.Open f le e h = let z : ◌≡◌ {A = ℕ} 0 1 = cc in absurd (omega arith)
fault_has_data operation.Next f le e h = let z : ◌≡◌ {A = ℕ} 0 1 = cc in absurd (omega arith)
fault_has_data operation.Fetch f le e h = let z : ◌≡◌ {A = ℕ} 0 1 = cc in absurd (omega arith)
fault_has_data operation.FetchNext f le e h = let z : ◌≡◌ {A = ℕ} 0 1 = cc in absurd (omega arith)
fault_has_data operation.Insert f le e h = refl
fault_has_data operation.Update f le e h = refl
fault_has_data operation.Delete f le e h = let z : ◌≡◌ {A = ℕ} 0 1 = cc in absurd (omega arith)

-- a command, from its envelope
module _ (bs : List ℕ) (o : Operation) (f : List ℕ) (le : ℕ) (within : Within bs o f) where
  pub parsed_inside : (c : Parsed) → Ok c ≡ command_of o f le → Holds bs c
  parsed_inside c h =
      holds bs f within.front within.inside c (subst (λ r. Safe (length f) r (Holds f)) (sym h) (safe_command o f le within.data_some))

  pub fault_inside : (e : FieldFault) → Err e ≡ command_of o f le → (e.place ≤ 5 + get_or bs 4 0) × (e.place ≤ length bs)
  fault_inside e h =
      let l : e.place ≤ length f = subst (λ r. Safe (length f) r (Holds f)) (sym h) (safe_command o f le within.data_some) in
      (omega (arith, l, within.data_end (fault_has_data o f le e h)), omega (arith, l, within.inside))
