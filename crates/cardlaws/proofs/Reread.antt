-- What the parser knows of a definition that it hands on.
use Rattle.std.proofs.Common.{◌≡◌, ℕ, ◌+◌, ◌-◌, ◌≤◌, Bool, true, false, cond, ltb, leb, List, [], ◌∷◌, map, length, get_or, take, drop, Some, None, Ok, Err, Option, Result, sym, refl, ap, ◌∙◌, subst, arith}
use Rattle.std.proofs.lemmas.Bool.{and_parts, leb-true, ltb-false}
use Rattle.std.proofs.lemmas.List.{take_rest}
use Rattle.fields.specs.declared.entries.Entry.TheVariants.{Definition}
use Rattle.fields.specs.Column.{column_of}
use Rattle.fields.specs.Entries.{entries_at}
use Rattle.fields.specs.Reader.{Read, got, broken, Parameter, parameters, param_at, count_at, identifier_at}
use Rattle.fields.specs.declared.reader.FieldFault.{FieldFault}
use Rattle.fields.specs.declared.entries.Entry.TheVariants.{Assignment, Text}
use Rattle.text.specs.Identifier.{identifies}
use Rattle.apdu.specs.declared.envelope.EnvelopeFault.{EnvelopeFault}
use Rattle.apdu.specs.declared.operation.Operation.{Operation}
use Rattle.apdu.specs.declared.operation.Operation.TheVariants as operation
use Rattle.apdu.specs.Envelope.{Opened, opened}
use Rattle.commands.specs.Codes.{profile_of}
use Rattle.commands.specs.Command.{Selected, Parsed}
use Rattle.commands.specs.Command.{present_user, create_user, create_table, create_view, drop_table, drop_view, grant, revoke, declare_cursor, open_cursor, next_row, fetch, fetch_next, insert, update, delete_row}
use Rattle.commands.specs.Parse.{command_of, parsed}
use Rattle.commands.specs.Parsers.{or_fault, or_else, ended, saying, only_name, permission_at, limit_at, selection_at}
use Rattle.cardmodel.specs.State.{Bytes}
use Rattle.cardmodel.specs.Objects.{columns_in, selection_in}
use Rattle.cardlaws.specs.Definitions.{Says, DefinitionsSay}
use Rattle.cardlaws.proofs.Readings.{count_got, ends_identifier, ends_entries, ends_selection, none_passed, entries_got, definition_params, columns_read}
use Rattle.cardlaws.proofs.Cuttings.{part_length, part_at, like_entries, like_parameters, like_selection}

-- a table's: a count and as many columns of different names, and nothing else
pub record TableReads (definition : Bytes) : Type 0 where
  pub least : 1 ≤ get_or definition 0 0
  pub most : get_or definition 0 0 ≤ 12
  pub reads : entries_at Definition definition 1 0 1 (get_or definition 0 0) ≡ got (get_or definition 0 0) (length definition)

same_read : {X : Type 0} {r : Read X} {x y : X} {a b : ℕ} → r ≡ got x a → x ≡ y → a ≡ b → r ≡ got y b
same_read e f g = cc

-- columns depend on the strings alone
columns_texts : (ps : List Parameter) → map (λ p. column_of p.bytes) ps ≡ map column_of (map (λ p. p.bytes) ps)
columns_texts [] = refl
columns_texts (p ∷ ps) = ap (λ cs. column_of p.bytes ∷ cs) (columns_texts ps)

-- a definition cut out of a command, from the count to the last column
module _ (bs : Bytes) (p n q c r : ℕ) (count : count_at bs 1 12 p ≡ got n q) (entries : entries_at Definition bs q 0 q n ≡ got c r) where
  abbrev definition : Bytes
  definition = take (r - p) (drop p bs)

  place : (p + 1 ≤ r) × (r ≤ length bs) × (q ≡ p + 1) × (n ≡ get_or bs p 0)
  place =
      let i = count_got bs 1 12 p n q count in
      let j = ends_entries bs Definition q 0 q n (omega arith) c r entries in (omega arith, j.1, i.2, i.1)

  room : p + (r - p) ≤ length bs
  room = let i = place in omega arith

  counted : get_or definition 0 0 ≡ n
  counted = let i = place in part_at bs p (r - p) room p 0 (omega arith) (omega arith) ∙ sym i.3

  cut_entries : entries_at Definition definition 1 0 1 n ≡ got n (length definition)
  cut_entries =
      let i = place in
      let k = like_entries bs p (r - p) room Definition q 1 i.2 (omega arith) n 0 q 1 i.2 (omega arith) (none_passed bs Definition q) c r entries (omega arith) in
      let v = (entries_got bs Definition q 0 q n c r entries).0 in
      let l = part_length bs p (r - p) room in
      let x : k.0 ≡ n = k.4 ∙ omega arith in
      let y : k.1 ≡ length definition = omega (arith, k.3) in
      same_read k.2 x y

  table_part : TableReads definition
  table_part =
      let i = count_got bs 1 12 p n q count in
      let g = and_parts (leb 1 (get_or bs p 0)) (leb (get_or bs p 0) 12) i.3 in
      let l = leb-true _ _ g.0 in
      let m = leb-true _ _ g.1 in
      let e = counted in
      record {
        least = omega arith;
        most = omega arith;
        reads = subst (λ k. entries_at Definition definition 1 0 1 k ≡ got k (length definition)) (sym counted) cut_entries;
      }

  table_columns : map Some (columns_in definition) ≡ map (λ x. column_of x.bytes) (parameters bs q n)
  unfolding columns_in
  table_columns =
      let i = place in
      let k = (entries_got bs Definition q 0 q n c r entries).1 in
      let t = like_parameters bs p (r - p) room n q 1 r i.2 (definition_params bs q n r k) (omega arith) in
      rw (counted, columns_texts (parameters definition 1 n), t, ← columns_texts (parameters bs q n)) (columns_read bs q n r k)

-- a definition that is the rest of a command
module _ (bs : Bytes) (p : ℕ) (s : Selected) (q : ℕ) (inside : p ≤ length bs) (selection : selection_at bs p ≡ got s q) (all : length bs ≤ q) where
  rest_part : (t : Selected) × (selection_at (drop p bs) 0 ≡ got t (length (drop p bs))) × Says t s
  rest_part =
      let m = length bs - p in
      let i = ends_selection bs p s q selection in
      let k = like_selection bs p m (omega arith) (omega arith) p 0 (omega arith) s q selection (omega arith) in
      let l = part_length bs p m (omega arith) in
      let d : take m (drop p bs) ≡ drop p bs = take_rest bs p in
      subst (λ f. (t : Selected) × (selection_at f 0 ≡ got t (length f)) × Says t s) d
      (k.0, same_read k.2 refl (omega (arith, k.3)), k.4)

  view_part : (selection_at (drop p bs) 0 ≡ got (selection_in (drop p bs)) (length (drop p bs))) × Says (selection_in (drop p bs)) s
  unfolding selection_in
  view_part = let k = rest_part in rw k.1 (refl, k.2)

-- what holds of a result, if there is one
module _ {Y : Type 0} (P : Y → Type 0) where
  abbrev OkHolds : {E : Type 0} → Result Y E → Type 0
  OkHolds (Ok y) = P y
  OkHolds (Err e) = Unit {0}

  ok_fault : {X : Type 0} (r : Read X) (k : X → ℕ → Result Y FieldFault) → ((x : X) (q : ℕ) → r ≡ got x q → OkHolds (k x q)) → OkHolds (or_fault r k)
  ok_fault (got x q) k h = h x q refl
  ok_fault (broken f) k h = tt

  ok_else : {X : Type 0} (o : Option X) (f : ℕ) (k : X → Result Y FieldFault) → ((x : X) → OkHolds (k x)) → OkHolds (or_else o f k)
  ok_else (Some x) f k h = h x
  ok_else None f k h = tt

  ok_ended : (bs : Bytes) (at : ℕ) (y : Y) → (length bs ≤ at → P y) → OkHolds (ended bs at y)
  ok_ended bs at y h = go (ltb at (length bs)) refl
    where
      go : (b : Bool) → ltb at (length bs) ≡ b → OkHolds {E = FieldFault} (cond b (Err (record { place = at })) (Ok y))
      go true e = tt
      go false e = h (ltb-false at (length bs) e)

ok_saying : {X : Type 0} (P : Parsed → Type 0) (r : Result X FieldFault) (k : X → Parsed) → ((x : X) → P (k x)) → OkHolds P (saying r k)
ok_saying P (Ok x) k h = h x
ok_saying P (Err f) k h = tt

-- EVERY COMMAND that the parser hands on: what it knows of definitions
abbrev Known : Parsed → Type 0
Known (present_user id) = Unit {0}
Known (create_user id profile) = Unit {0}
Known (create_table name definition columns limit) = TableReads definition × (map Some (columns_in definition) ≡ map (λ p. column_of p.bytes) columns)
Known (create_view name definition s) = (selection_at definition 0 ≡ got (selection_in definition) (length definition)) × Says (selection_in definition) s
Known (drop_table name) = Unit {0}
Known (drop_view name) = Unit {0}
Known (grant p) = Unit {0}
Known (revoke p) = Unit {0}
Known (declare_cursor s) = Unit {0}
Known open_cursor = Unit {0}
Known next_row = Unit {0}
Known (fetch le) = Unit {0}
Known (fetch_next le) = Unit {0}
Known (insert table count strings row) = Unit {0}
Known (update assignments) = Unit {0}
Known delete_row = Unit {0}

presented_known : (bs : Bytes) (b : Bool) → OkHolds Known {E = FieldFault} (cond b (Ok (present_user (record { place = 5; bytes = drop 5 bs }))) (Err (record { place = 5 })))
presented_known bs true = tt
presented_known bs false = tt

command_known : (o : Operation) (bs : Bytes) (le : ℕ) → OkHolds Known (command_of o bs le)
command_known operation.PresentUser bs le = presented_known bs (identifies (drop 5 bs))
command_known operation.CreateUser bs le =
    ok_fault Known (identifier_at bs 5) _ (λ id p _. ok_fault Known (param_at bs p) _ (λ text q _. ok_else Known (profile_of text.bytes) p _ (λ profile. ok_ended Known bs q _ (λ _. tt))))
command_known operation.CreateTable bs le =
    ok_fault Known (identifier_at bs 5) _ (λ name p _. ok_fault Known (count_at bs 1 12 p) _ (λ n q count. ok_fault Known (entries_at Definition bs q 0 q n) _ (λ c r entries.
    ok_fault Known (limit_at bs r) _ (λ limit e _. ok_ended Known bs e _ (λ _. (table_part bs p n q c r count entries, table_columns bs p n q c r count entries))))))
command_known operation.CreateView bs le =
    ok_fault Known (identifier_at bs 5) _ (λ name p h. ok_fault Known (selection_at bs p) _ (λ s q e. ok_ended Known bs q _ (λ l. view_part bs p s q (ends_identifier bs 5 name p h).1 e l)))
command_known operation.DropTable bs le = ok_saying Known (only_name bs) drop_table (λ name. tt)
command_known operation.DropView bs le = ok_saying Known (only_name bs) drop_view (λ name. tt)
command_known operation.Grant bs le = ok_saying Known (permission_at bs) grant (λ p. tt)
command_known operation.Revoke bs le = ok_saying Known (permission_at bs) revoke (λ p. tt)
command_known operation.DeclareCursor bs le = ok_fault Known (selection_at bs 5) _ (λ s p _. ok_ended Known bs p _ (λ _. tt))
command_known operation.Open bs le = tt
command_known operation.Next bs le = tt
command_known operation.Fetch bs le = tt
command_known operation.FetchNext bs le = tt
command_known operation.Insert bs le =
    ok_fault Known (identifier_at bs 5) _ (λ table p _. ok_fault Known (count_at bs 0 255 p) _ (λ n q _. ok_fault Known (entries_at Text bs q 0 q n) _ (λ _ e _. ok_ended Known bs e _ (λ _. tt))))
command_known operation.Update bs le = ok_fault Known (count_at bs 1 12 5) _ (λ n p _. ok_fault Known (entries_at Assignment bs p 0 p n) _ (λ _ e _. ok_ended Known bs e _ (λ _. tt)))
command_known operation.Delete bs le = tt

known : (bs : Bytes) (area : ℕ) (c : Parsed) → parsed bs area ≡ Ok c → Known c
known bs area c e = subst (OkHolds Known) e (in_envelope (opened bs area) refl)
  where
    in_field : (o : Opened) → opened bs area ≡ Ok o → (r : Result Parsed FieldFault) → command_of o.operation o.field o.le ≡ r → OkHolds Known r → OkHolds Known (parsed bs area)
    in_field o q (Ok c) f h = rw (q, f) h
    in_field o q (Err x) f h = rw (q, f) tt

    in_envelope : (r : Result Opened EnvelopeFault) → opened bs area ≡ r → OkHolds Known (parsed bs area)
    in_envelope (Ok o) q = in_field o q (command_of o.operation o.field o.le) refl (command_known o.operation o.field o.le)
    in_envelope (Err f) q = rw q tt

pub table_reads : (bs : Bytes) (area : ℕ) (name : Parameter) (definition : Bytes) (columns : List Parameter) (limit : ℕ) →
    parsed bs area ≡ Ok (create_table name definition columns limit) → TableReads definition
table_reads bs area name definition columns limit e = (known bs area (create_table name definition columns limit) e).0

pub view_reads : (bs : Bytes) (area : ℕ) (name : Parameter) (definition : Bytes) (s : Selected) → parsed bs area ≡ Ok (create_view name definition s) →
    (selection_at definition 0 ≡ got (selection_in definition) (length definition)) × Says (selection_in definition) s
view_reads bs area name definition s e = known bs area (create_view name definition s) e

pub definitions_say : DefinitionsSay
definitions_say = (
  (λ m name definition columns limit e. (known m.bytes m.area (create_table name definition columns limit) e).1),
  (λ m name definition s e. (known m.bytes m.area (create_view name definition s) e).1),
)
