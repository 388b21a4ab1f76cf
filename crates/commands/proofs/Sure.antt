-- What holds of everything that is read, and where reading can break off: never past the end of the field.
use Rattle.std.proofs.Common.{◌≡◌, ℕ, zero, suc, ◌+◌, ◌≤◌, Bool, true, false, cond, ◌&&◌, eqb, ltb, leb, List, ◌∷◌, length, get_or, take, drop, Some, None, Ok, Err, Option, Result, sym, refl, ap, arith}
use Rattle.std.proofs.lemmas.List.{length-take-le, length-drop}
use Rattle.std.proofs.lemmas.Bool.{ltb-true, leb-true}
use Rattle.text.specs.Identifier.{identifies}
use Rattle.text.specs.Operator.{coded_by}
use Rattle.fields.specs.declared.reader.FieldFault.{FieldFault}
use Rattle.fields.specs.declared.entries.Entry.{Entry}
use Rattle.fields.specs.declared.entries.Entry.TheVariants.{Name, Definition, Assignment, Condition, Text}
use Rattle.fields.specs.Column.{column_of}
use Rattle.fields.specs.Reader.{Read, got, broken, and_then, or_broken, each, Parameter, parameter_at, behind, parameters, param_at, count_at, identifier_at, byte_at, operator_at}
use Rattle.fields.specs.Entries.{name_at, rest_at, differ, names, among, entries_at}
use Rattle.commands.specs.Parsers.{fault, or_fault, or_else, ended}
use Rattle.commands.specs.Inside.{In, AllIn}

-- what was read has a property, or the fault is not past a limit
abbrev pub Sure : {X : Type 0} → ℕ → Read X → (X → Type 0) → Type 0
Sure n (got x q) P = P x
Sure n (broken p) P = p ≤ n

abbrev pub Safe : {X : Type 0} → ℕ → Result X FieldFault → (X → Type 0) → Type 0
Safe n (Ok x) P = P x
Safe n (Err f) P = f.place ≤ n

-- along a chain of readings
pub sure_then : {X Y : Type 0} (n : ℕ) (r : Read X) (k : X → ℕ → Read Y) (P : X → Type 0) (Q : Y → Type 0) → Sure n r P → ((x : X) (q : ℕ) → P x → Sure n (k x q) Q) → Sure n (and_then r k) Q
sure_then n (got x q) k P Q h f = f x q h
sure_then n (broken p) k P Q h f = h

pub safe_then : {X Y : Type 0} (n : ℕ) (r : Read X) (k : X → ℕ → Result Y FieldFault) (P : X → Type 0) (Q : Y → Type 0) → Sure n r P → ((x : X) (q : ℕ) → P x → Safe n (k x q) Q) → Safe n (or_fault r k) Q
safe_then n (got x q) k P Q h f = f x q h
safe_then n (broken p) k P Q h f = h

pub sure_or : {X Y : Type 0} (n : ℕ) (o : Option X) (p : ℕ) (k : X → Read Y) (Q : Y → Type 0) → p ≤ n → ((x : X) → Sure n (k x) Q) → Sure n (or_broken o p k) Q
sure_or n (Some x) p k Q l f = f x
sure_or n None p k Q l f = l

pub safe_or : {X Y : Type 0} (n : ℕ) (o : Option X) (p : ℕ) (k : X → Result Y FieldFault) (Q : Y → Type 0) → p ≤ n → ((x : X) → Safe n (k x) Q) → Safe n (or_else o p k) Q
safe_or n (Some x) p k Q l f = f x
safe_or n None p k Q l f = l

pub sure_cond : {X : Type 0} (n : ℕ) (b : Bool) (r s : Read X) (P : X → Type 0) → (b ≡ true → Sure n r P) → (b ≡ false → Sure n s P) → Sure n (cond b r s) P
sure_cond n true r s P f g = f refl
sure_cond n false r s P f g = g refl

-- single readings
pub sure_param : (bs : List ℕ) (at : ℕ) → Sure (length bs) (param_at bs at) (λ p. In bs p × (at ≤ length bs))
unfolding param_at
sure_param bs at =
    sure_cond (length bs) (ltb at (length bs)) _ (broken (length bs)) _
    (λ l. sure_cond (length bs) (leb (behind bs at) (length bs)) (got (parameter_at bs at) (behind bs at)) (broken (length bs)) _
    (λ r. let room = leb-true (behind bs at) (length bs) r in
    let long : length (take (get_or bs at 0) (drop (at + 1) bs)) ≡ get_or bs at 0 = length-take-le (get_or bs at 0) (drop (at + 1) bs) (omega (arith, length-drop (at + 1) bs)) in (
      record { size = sym long; part = record { room = omega (arith, long); bytes = ap (λ n. take n (drop (at + 1) bs)) (sym long) } },
      omega (arith, ltb-true at (length bs) l),
    ))
    (λ _. omega arith))
    (λ _. omega arith)

pub sure_count : (bs : List ℕ) (least most at : ℕ) → Sure (length bs) (count_at bs least most at) (λ _. Unit {0})
unfolding count_at
sure_count bs least most at =
    sure_cond (length bs) (ltb at (length bs)) _ (broken (length bs)) _
    (λ l. sure_cond (length bs) (leb least (get_or bs at 0) && leb (get_or bs at 0) most) (got (get_or bs at 0) (at + 1)) (broken at) _ (λ _. tt) (λ _. omega (arith, ltb-true at (length bs) l)))
    (λ _. omega arith)

pub sure_identifier : (bs : List ℕ) (at : ℕ) → Sure (length bs) (identifier_at bs at) (λ p. In bs p × (at ≤ length bs))
unfolding identifier_at
sure_identifier bs at =
    sure_then (length bs) (param_at bs at) _ (λ p. In bs p × (at ≤ length bs)) _ (sure_param bs at)
    (λ p q h. sure_cond (length bs) (identifies p.bytes) (got p q) (broken at) _ (λ _. h) (λ _. h.1))

pub sure_byte : (bs : List ℕ) (at : ℕ) → Sure (length bs) (byte_at bs at) (λ _. at ≤ length bs)
unfolding byte_at
sure_byte bs at =
    sure_then (length bs) (param_at bs at) _ (λ p. In bs p × (at ≤ length bs)) _ (sure_param bs at)
    (λ p q h. sure_cond (length bs) (eqb (length p.bytes) 1) (got (get_or p.bytes 0 0) q) (broken at) _ (λ _. h.1) (λ _. h.1))

pub sure_operator : (bs : List ℕ) (at : ℕ) → Sure (length bs) (operator_at bs at) (λ _. Unit {0})
unfolding operator_at
sure_operator bs at =
    sure_then (length bs) (byte_at bs at) _ (λ _. at ≤ length bs) _ (sure_byte bs at)
    (λ code q h. sure_or (length bs) (coded_by code) at (λ o. got o q) _ h (λ _. tt))

-- every parameter of a list
pub all_in : (bs : List ℕ) (at n : ℕ) → AllIn bs (parameters bs at n)
all_in bs at zero = tt
all_in bs at (suc n) = along (param_at bs at) (λ q. all_in bs q n) (sure_param bs at)
  where
    along : (r : Read Parameter) → ((q : ℕ) → AllIn bs (parameters bs q n)) → Sure (length bs) r (λ p. In bs p × (at ≤ length bs)) → AllIn bs (each r (λ p q. p ∷ parameters bs q n))
    along (got p q) more h = (h.0, more q)
    along (broken p) more h = tt

-- entries
sure_name : (e : Entry) (bs : List ℕ) (at : ℕ) → Sure (length bs) (name_at e bs at) (λ _. differ e ≡ true → at ≤ length bs)
unfolding name_at
sure_name Name bs at = sure_then (length bs) (identifier_at bs at) _ (λ p. In bs p × (at ≤ length bs)) _ (sure_identifier bs at) (λ p q h _. h.1)
sure_name Definition bs at =
    sure_then (length bs) (param_at bs at) _ (λ p. In bs p × (at ≤ length bs)) _ (sure_param bs at) (λ p q h. sure_or (length bs) (column_of p.bytes) at (λ c. got c.name q) _ h.1 (λ _ _. h.1))
sure_name Assignment bs at = sure_then (length bs) (identifier_at bs at) _ (λ p. In bs p × (at ≤ length bs)) _ (sure_identifier bs at) (λ p q h _. h.1)
sure_name Condition bs at = sure_then (length bs) (identifier_at bs at) _ (λ p. In bs p × (at ≤ length bs)) _ (sure_identifier bs at) (λ p q h _. h.1)
sure_name Text bs at = λ e. let z : ◌≡◌ {A = ℕ} 0 1 = cc in absurd (omega arith)

sure_rest : (e : Entry) (bs : List ℕ) (at : ℕ) → Sure (length bs) (rest_at e bs at) (λ _. Unit {0})
unfolding rest_at
sure_rest Name bs at = tt
sure_rest Definition bs at = tt
sure_rest Assignment bs at = sure_then (length bs) (param_at bs at) (λ _ q. got 0 q) (λ p. In bs p × (at ≤ length bs)) (λ _. Unit {0}) (sure_param bs at) (λ p q h. tt)
sure_rest Condition bs at =
    sure_then (length bs) (operator_at bs at) (λ _ q. and_then (param_at bs q) (λ _ e. got 0 e)) (λ _. Unit {0}) (λ _. Unit {0}) (sure_operator bs at)
    (λ o q h. sure_then (length bs) (param_at bs q) (λ _ e. got 0 e) (λ p. In bs p × (q ≤ length bs)) (λ _. Unit {0}) (sure_param bs q) (λ p e k. tt))
sure_rest Text bs at = sure_then (length bs) (param_at bs at) (λ _ q. got 0 q) (λ p. In bs p × (at ≤ length bs)) (λ _. Unit {0}) (sure_param bs at) (λ p q h. tt)

both : (d a : Bool) → (d && a) ≡ true → d ≡ true
both true a e = refl
both false a e = e

pub sure_entries : (e : Entry) (bs : List ℕ) (from i at n : ℕ) → Sure (length bs) (entries_at e bs from i at n) (λ _. Unit {0})
unfolding entries_at
sure_entries e bs from i at zero = tt
sure_entries e bs from i at (suc n) =
    sure_then (length bs) (name_at e bs at) _ (λ _. differ e ≡ true → at ≤ length bs) (λ _. Unit {0}) (sure_name e bs at)
    (λ name q h. sure_cond (length bs) (differ e && among name (names e bs from i)) (broken at) _ (λ _. Unit {0})
    (λ b. h (both (differ e) (among name (names e bs from i)) b))
    (λ _. sure_then (length bs) (rest_at e bs q) _ (λ _. Unit {0}) (λ _. Unit {0}) (sure_rest e bs q) (λ _ r _. sure_entries e bs from (i + 1) r n)))

-- nothing left over
pub safe_ended : {X : Type 0} (bs : List ℕ) (at : ℕ) (x : X) (P : X → Type 0) → P x → Safe (length bs) (ended bs at x) P
safe_ended bs at x P h = choose (ltb at (length bs)) (λ e. omega (arith, ltb-true at (length bs) e))
  where
    choose : (b : Bool) → (b ≡ true → at ≤ length bs) → Safe (length bs) (cond b (fault at) (Ok x)) P
    choose true f = f refl
    choose false f = h
