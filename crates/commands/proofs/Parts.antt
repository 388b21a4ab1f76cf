-- Every command holds parts of its field, and its faults are in the field or just past it.
use Rattle.std.proofs.Common.{◌≡◌, ℕ, ◌*◌, ◌<◌, ◌≤◌, Bool, true, false, cond, eqb, ltb, List, [], length, drop, Ok, Err, Result, sym, refl, arith}
use Rattle.std.proofs.lemmas.List.{length-drop, take_all}
use Rattle.text.specs.Identifier.{identifies}
use Rattle.fields.specs.declared.reader.FieldFault.{FieldFault}
use Rattle.fields.specs.declared.entries.Entry.TheVariants.{Name, Definition, Assignment, Condition, Text}
use Rattle.fields.specs.Reader.{got, broken, Parameter, param_at, count_at, identifier_at, byte_at}
use Rattle.fields.specs.Entries.{entries_at}
use Rattle.apdu.specs.declared.operation.Operation.{Operation}
use Rattle.apdu.specs.declared.operation.Operation.TheVariants as operation
use Rattle.apdu.specs.Operation.{carries_data}
use Rattle.commands.specs.Codes.{profile_of, right_of}
use Rattle.commands.specs.Command.{Parsed, Permitted, present_user, drop_table, drop_view, grant, revoke}
use Rattle.commands.specs.Parsers.{fault, grants, conditions_at, selection_at, limit_at, right_at, grantee_at, permission_at, saying, only_name, present_user_of, name_of, permission_of}
use Rattle.commands.specs.Parse.{command_of}
use Rattle.commands.specs.Inside.{In, AllIn, SelectedIn, PermittedIn, Holds}
use Rattle.commands.proofs.Sure.{Sure, Safe, sure_then, safe_then, sure_or, safe_or, sure_cond, sure_param, sure_count, sure_identifier, sure_byte, all_in, sure_entries, safe_ended}

sure_conditions : (bs : List ℕ) (at : ℕ) → Sure (length bs) (conditions_at bs at) (AllIn bs)
unfolding conditions_at
sure_conditions bs at =
    sure_cond (length bs) (ltb at (length bs)) _ (got [] at) (AllIn bs)
    (λ _. sure_then (length bs) (count_at bs 0 4 at) _ (λ _. Unit {0}) (AllIn bs) (sure_count bs 0 4 at)
    (λ n p _. sure_then (length bs) (entries_at Condition bs p 0 p n) _ (λ _. Unit {0}) (AllIn bs) (sure_entries Condition bs p 0 p n) (λ _ q _. all_in bs p (3 * n))))
    (λ _. tt)

sure_selection : (bs : List ℕ) (at : ℕ) → Sure (length bs) (selection_at bs at) (SelectedIn bs)
unfolding selection_at
sure_selection bs at =
    sure_then (length bs) (identifier_at bs at) _ (λ p. In bs p × (at ≤ length bs)) (SelectedIn bs) (sure_identifier bs at)
    (λ source p h. sure_then (length bs) (count_at bs 0 12 p) _ (λ _. Unit {0}) (SelectedIn bs) (sure_count bs 0 12 p)
    (λ n q _. sure_then (length bs) (entries_at Name bs q 0 q n) _ (λ _. Unit {0}) (SelectedIn bs) (sure_entries Name bs q 0 q n)
    (λ _ r _. sure_then (length bs) (conditions_at bs r) _ (AllIn bs) (SelectedIn bs) (sure_conditions bs r) (λ tests e k. (h.0, all_in bs q n, k)))))

sure_limit : (bs : List ℕ) (at : ℕ) → Sure (length bs) (limit_at bs at) (λ _. Unit {0})
unfolding limit_at
sure_limit bs at =
    sure_cond (length bs) (ltb at (length bs)) _ (got 16 at) (λ _. Unit {0})
    (λ _. sure_then (length bs) (byte_at bs at) _ (λ _. at ≤ length bs) (λ _. Unit {0}) (sure_byte bs at)
    (λ n q h. sure_cond (length bs) (eqb n 0) (broken at) (got n q) (λ _. Unit {0}) (λ _. h) (λ _. tt)))
    (λ _. tt)

safe_permission : (bs : List ℕ) → Safe (length bs) (permission_at bs) (PermittedIn bs)
unfolding permission_at right_at grantee_at
safe_permission bs =
    safe_then (length bs) (right_at bs 5) _ (λ _. Unit {0}) (PermittedIn bs)
    (sure_then (length bs) (byte_at bs 5) _ (λ _. 5 ≤ length bs) (λ _. Unit {0}) (sure_byte bs 5) (λ code q h. sure_or (length bs) (right_of code) 5 (λ r. got r q) (λ _. Unit {0}) h (λ _. tt)))
    (λ right p _. safe_then (length bs) (identifier_at bs p) _ (λ o. In bs o × (p ≤ length bs)) (PermittedIn bs) (sure_identifier bs p)
    (λ object q h. safe_then (length bs) (grantee_at bs q) _ (In bs) (PermittedIn bs)
    (sure_then (length bs) (param_at bs q) _ (λ g. In bs g × (q ≤ length bs)) (In bs) (sure_param bs q) (λ g e k. sure_cond (length bs) (grants g.bytes) (got g e) (broken q) (In bs) (λ _. k.0) (λ _. k.1)))
    (λ grantee e k. safe_ended bs e _ (PermittedIn bs) (h.0, k))))

safe_saying : {X : Type 0} (bs : List ℕ) (r : Result X FieldFault) (k : X → Parsed) (P : X → Type 0) → Safe (length bs) r P → ((x : X) → P x → Holds bs (k x)) → Safe (length bs) (saying r k) (Holds bs)
safe_saying bs (Ok x) k P h f = f x h
safe_saying bs (Err e) k P h f = h

safe_named : (bs : List ℕ) (k : Parameter → Parsed) → ((p : Parameter) → In bs p → Holds bs (k p)) → Safe (length bs) (name_of bs k) (Holds bs)
unfolding only_name
safe_named bs k f =
    safe_saying bs (only_name bs) k (In bs)
    (safe_then (length bs) (identifier_at bs 5) _ (λ p. In bs p × (5 ≤ length bs)) (In bs) (sure_identifier bs 5) (λ name p h. safe_ended bs p name (In bs) h.0))
    f

safe_permitted : (bs : List ℕ) (k : Permitted → Parsed) → ((p : Permitted) → PermittedIn bs p → Holds bs (k p)) → Safe (length bs) (permission_of bs k) (Holds bs)
safe_permitted bs k f = safe_saying bs (permission_at bs) k (PermittedIn bs) (safe_permission bs) f

safe_present : (bs : List ℕ) → 5 < length bs → Safe (length bs) (present_user_of bs) (Holds bs)
safe_present bs l = choose (identifies (drop 5 bs))
  where
    choose : (b : Bool) → Safe (length bs) (cond b (Ok (present_user (record { place = 5; bytes = drop 5 bs }))) (fault 5)) (Holds bs)
    choose true = (record { room = omega (arith, length-drop 5 bs); bytes = sym (take_all (length (drop 5 bs)) (drop 5 bs) (omega arith)) }, refl)
    choose false = omega arith

-- every operation
pub safe_command : (o : Operation) (bs : List ℕ) (le : ℕ) → (carries_data o ≡ true → 5 < length bs) → Safe (length bs) (command_of o bs le) (Holds bs)
safe_command operation.PresentUser bs le some = safe_present bs (some refl)
safe_command operation.CreateUser bs le some =
    safe_then (length bs) (identifier_at bs 5) _ (λ p. In bs p × (5 ≤ length bs)) (Holds bs) (sure_identifier bs 5)
    (λ id p h. safe_then (length bs) (param_at bs p) _ (λ t. In bs t × (p ≤ length bs)) (Holds bs) (sure_param bs p)
    (λ text q k. safe_or (length bs) (profile_of text.bytes) p _ (Holds bs) k.1 (λ profile. safe_ended bs q _ (Holds bs) h.0)))
safe_command operation.CreateTable bs le some =
    safe_then (length bs) (identifier_at bs 5) _ (λ p. In bs p × (5 ≤ length bs)) (Holds bs) (sure_identifier bs 5)
    (λ name p h. safe_then (length bs) (count_at bs 1 12 p) _ (λ _. Unit {0}) (Holds bs) (sure_count bs 1 12 p)
    (λ n q _. safe_then (length bs) (entries_at Definition bs q 0 q n) _ (λ _. Unit {0}) (Holds bs) (sure_entries Definition bs q 0 q n)
    (λ _ r _. safe_then (length bs) (limit_at bs r) _ (λ _. Unit {0}) (Holds bs) (sure_limit bs r)
    (λ limit e _. safe_ended bs e _ (Holds bs) (h.0, all_in bs q n)))))
safe_command operation.CreateView bs le some =
    safe_then (length bs) (identifier_at bs 5) _ (λ p. In bs p × (5 ≤ length bs)) (Holds bs) (sure_identifier bs 5)
    (λ name p h. safe_then (length bs) (selection_at bs p) _ (SelectedIn bs) (Holds bs) (sure_selection bs p) (λ s q k. safe_ended bs q _ (Holds bs) (h.0, k)))
safe_command operation.DropTable bs le some = safe_named bs drop_table (λ p h. h)
safe_command operation.DropView bs le some = safe_named bs drop_view (λ p h. h)
safe_command operation.Grant bs le some = safe_permitted bs grant (λ p h. h)
safe_command operation.Revoke bs le some = safe_permitted bs revoke (λ p h. h)
safe_command operation.DeclareCursor bs le some =
    safe_then (length bs) (selection_at bs 5) _ (SelectedIn bs) (Holds bs) (sure_selection bs 5) (λ s p h. safe_ended bs p _ (Holds bs) h)
safe_command operation.Open bs le some = tt
safe_command operation.Next bs le some = tt
safe_command operation.Fetch bs le some = tt
safe_command operation.FetchNext bs le some = tt
safe_command operation.Insert bs le some =
    safe_then (length bs) (identifier_at bs 5) _ (λ p. In bs p × (5 ≤ length bs)) (Holds bs) (sure_identifier bs 5)
    (λ table p h. safe_then (length bs) (count_at bs 0 255 p) _ (λ _. Unit {0}) (Holds bs) (sure_count bs 0 255 p)
    (λ n q _. safe_then (length bs) (entries_at Text bs q 0 q n) _ (λ _. Unit {0}) (Holds bs) (sure_entries Text bs q 0 q n)
    (λ _ e _. safe_ended bs e _ (Holds bs) (h.0, all_in bs q n))))
safe_command operation.Update bs le some =
    safe_then (length bs) (count_at bs 1 12 5) _ (λ _. Unit {0}) (Holds bs) (sure_count bs 1 12 5)
    (λ n p _. safe_then (length bs) (entries_at Assignment bs p 0 p n) _ (λ _. Unit {0}) (Holds bs) (sure_entries Assignment bs p 0 p n)
    (λ _ e _. safe_ended bs e _ (Holds bs) (all_in bs p (2 * n))))
safe_command operation.Delete bs le some = tt
