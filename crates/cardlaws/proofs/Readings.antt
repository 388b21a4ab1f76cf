-- What is known of a reading that succeeded: its steps, and where it ends.
use Rattle.std.proofs.Common.{◌≡◌, ℕ, zero, suc, ◌+◌, ◌*◌, ◌<◌, ◌≤◌, Bool, true, false, cond, ◌&&◌, eqb, ltb, leb, List, [], ◌∷◌, map, length, get_or, Some, None, Option, sym, refl, ap, ◌∙◌, subst, arith}
use Rattle.std.proofs.lemmas.Bool.{leb-true, ltb-true}
use Rattle.text.specs.Identifier.{identifies}
use Rattle.text.specs.Operator.{coded_by}
use Rattle.text.specs.declared.operator.Operator.{Operator}
use Rattle.fields.specs.declared.entries.Entry.{Entry}
use Rattle.fields.specs.declared.entries.Entry.TheVariants.{Name, Definition, Assignment, Condition, Text}
use Rattle.fields.specs.Column.{Column, column_of}
use Rattle.fields.specs.Reader.{Read, got, broken, and_then, or_broken, Parameter, parameters, parameter_at, behind, param_at, count_at, identifier_at, byte_at, operator_at}
use Rattle.fields.specs.Entries.{name_at, rest_at, differ, among, names, entries_at}
use Rattle.commands.specs.Parsers.{conditions_at, selection_at}
use Rattle.cardmodel.specs.Lists.{somes}

-- the strings of parameters
abbrev pub texts : List Parameter → List (List ℕ)
texts ps = map (λ p. p.bytes) ps

-- what was read is not broken off, and is one thing
module _ {X : Type 0} where
  broken_got : {f q : ℕ} {x : X} → broken f ≡ got x q → ⊥
  broken_got e = let z : ◌≡◌ {A = ℕ} 0 1 = cc in omega arith

  pub got_value : {x y : X} {q r : ℕ} → got x q ≡ got y r → x ≡ y
  got_value e = cc

  pub got_end : {x y : X} {q r : ℕ} → got x q ≡ got y r → q ≡ r
  got_end e = cc

  pub got_if : (b : Bool) (r : Read X) (f : ℕ) (x : X) (q : ℕ) → cond b r (broken f) ≡ got x q → (b ≡ true) × (r ≡ got x q)
  got_if true r f x q e = (refl, e)
  got_if false r f x q e = absurd (broken_got e)

  pub got_unless : (b : Bool) (r : Read X) (f : ℕ) (x : X) (q : ℕ) → cond b (broken f) r ≡ got x q → (b ≡ false) × (r ≡ got x q)
  got_unless false r f x q e = (refl, e)
  got_unless true r f x q e = absurd (broken_got e)

  pub got_then : {Y : Type 0} (r : Read Y) (k : Y → ℕ → Read X) (x : X) (e : ℕ) → and_then r k ≡ got x e → (y : Y) × (q : ℕ) × (r ≡ got y q) × (k y q ≡ got x e)
  got_then (got y q) k x e h = (y, q, refl, h)
  got_then (broken f) k x e h = absurd (broken_got h)

  pub got_or : {Y : Type 0} (o : Option Y) (f : ℕ) (k : Y → Read X) (x : X) (e : ℕ) → or_broken o f k ≡ got x e → (y : Y) × (o ≡ Some y) × (k y ≡ got x e)
  got_or (Some y) f k x e h = (y, refl, h)
  got_or None f k x e h = absurd (broken_got h)

-- a parameter that was read, and when one is read
pub param_got : (bs : List ℕ) (at : ℕ) (x : Parameter) (q : ℕ) → param_at bs at ≡ got x q → (at < length bs) × (x ≡ parameter_at bs at) × (q ≡ behind bs at) × (q ≤ length bs)
unfolding param_at
param_got bs at x q e =
    let i = got_if (ltb at (length bs)) (cond (leb (behind bs at) (length bs)) (got (parameter_at bs at) (behind bs at)) (broken (length bs))) (length bs) x q e in
    let j = got_if (leb (behind bs at) (length bs)) (got (parameter_at bs at) (behind bs at)) (length bs) x q i.1 in
    let l = leb-true _ _ j.0 in
    let v : behind bs at ≡ q = got_end j.1 in
    (ltb-true _ _ i.0, sym (got_value j.1), sym v, subst (λ z. z ≤ length bs) v l)

-- a count that was read
pub count_got : (bs : List ℕ) (least most at x q : ℕ) → count_at bs least most at ≡ got x q →
    (at < length bs) × (x ≡ get_or bs at 0) × (q ≡ at + 1) × ((leb least (get_or bs at 0) && leb (get_or bs at 0) most) ≡ true)
unfolding count_at
count_got bs least most at x q e =
    let i = got_if (ltb at (length bs)) (cond (leb least (get_or bs at 0) && leb (get_or bs at 0) most) (got (get_or bs at 0) (at + 1)) (broken at)) (length bs) x q e in
    let j = got_if (leb least (get_or bs at 0) && leb (get_or bs at 0) most) (got (get_or bs at 0) (at + 1)) at x q i.1 in
    (ltb-true _ _ i.0, sym (got_value j.1), sym (got_end j.1), j.0)

somes_more : {X Y : Type 0} (f : X → Option Y) (x : X) (y : Y) (xs : List X) → f x ≡ Some y → map Some (somes (map f xs)) ≡ map f xs → map Some (somes (map f (x ∷ xs))) ≡ map f (x ∷ xs)
somes_more {Y = Y} f x y xs e h = rw e (ap {B = List (Option Y)} (λ ys. Some y ∷ ys) h)

-- WHERE READINGS END: not before they begin, and within the bytes
module _ (bs : List ℕ) where
  abbrev pub Ends : {X : Type 0} → Read X → ℕ → Type 0
  Ends {X} r a = (x : X) (q : ℕ) → r ≡ got x q → (a ≤ q) × (q ≤ length bs)

  pub ends_here : {X : Type 0} (x : X) (a : ℕ) → a ≤ length bs → Ends (got x a) a
  ends_here x a h y q e = let v : a ≡ q = got_end e in omega arith

  pub ends_then : {X Y : Type 0} (r : Read X) (k : X → ℕ → Read Y) (a : ℕ) → Ends r a → ((x : X) (q : ℕ) → q ≤ length bs → Ends (k x q) q) → Ends (and_then r k) a
  ends_then r k a h g z e t =
      let i = got_then r k z e t in
      let l = h i.0 i.1 i.2 in
      let m = g i.0 i.1 l.1 z e i.3 in omega arith

  pub ends_if : {X : Type 0} (b : Bool) (r : Read X) (f a : ℕ) → Ends r a → Ends (cond b r (broken f)) a
  ends_if b r f a h x q e = h x q (got_if b r f x q e).1

  pub ends_unless : {X : Type 0} (b : Bool) (r : Read X) (f a : ℕ) → Ends r a → Ends (cond b (broken f) r) a
  ends_unless b r f a h x q e = h x q (got_unless b r f x q e).1

  pub ends_or : {X Y : Type 0} (o : Option X) (f : ℕ) (k : X → Read Y) (a : ℕ) → ((x : X) → Ends (k x) a) → Ends (or_broken o f k) a
  ends_or o f k a h x q e = let i = got_or o f k x q e in h i.0 x q i.2

  pub ends_param : (a : ℕ) → Ends (param_at bs a) a
  ends_param a x q e = let i = param_got bs a x q e in omega arith

  pub ends_count : (least most a : ℕ) → Ends (count_at bs least most a) a
  ends_count least most a x q e = let i = count_got bs least most a x q e in omega arith

  pub ends_identifier : (a : ℕ) → Ends (identifier_at bs a) a
  unfolding identifier_at
  ends_identifier a = ends_then (param_at bs a) _ a (ends_param a) (λ x q h. ends_if (identifies x.bytes) (got x q) a q (ends_here x q h))

  pub ends_byte : (a : ℕ) → Ends (byte_at bs a) a
  unfolding byte_at
  ends_byte a = ends_then (param_at bs a) _ a (ends_param a) (λ x q h. ends_if (eqb (length x.bytes) 1) _ a q (ends_here (get_or x.bytes 0 0) q h))

  pub ends_operator : (a : ℕ) → Ends (operator_at bs a) a
  unfolding operator_at
  ends_operator a = ends_then (byte_at bs a) _ a (ends_byte a) (λ x q h. ends_or (coded_by x) a _ q (λ o. ends_here o q h))

  pub ends_name : (e : Entry) (a : ℕ) → a ≤ length bs → Ends (name_at e bs a) a
  unfolding name_at
  ends_name Name a l = ends_then (identifier_at bs a) _ a (ends_identifier a) (λ x q h. ends_here x.bytes q h)
  ends_name Definition a l = ends_then (param_at bs a) _ a (ends_param a) (λ x q h. ends_or (column_of x.bytes) a _ q (λ c. ends_here c.name q h))
  ends_name Assignment a l = ends_then (identifier_at bs a) _ a (ends_identifier a) (λ x q h. ends_here x.bytes q h)
  ends_name Condition a l = ends_then (identifier_at bs a) _ a (ends_identifier a) (λ x q h. ends_here x.bytes q h)
  ends_name Text a l = ends_here [] a l

  pub ends_rest : (e : Entry) (a : ℕ) → a ≤ length bs → Ends (rest_at e bs a) a
  unfolding rest_at
  ends_rest Name a l = ends_here 0 a l
  ends_rest Definition a l = ends_here 0 a l
  ends_rest Assignment a l = ends_then (param_at bs a) _ a (ends_param a) (λ x q h. ends_here 0 q h)
  ends_rest Condition a l = ends_then (operator_at bs a) _ a (ends_operator a) (λ x q h. ends_then (param_at bs q) _ q (ends_param q) (λ y r g. ends_here 0 r g))
  ends_rest Text a l = ends_then (param_at bs a) _ a (ends_param a) (λ x q h. ends_here 0 q h)

  pub ends_entries : (e : Entry) (from i a n : ℕ) → a ≤ length bs → Ends (entries_at e bs from i a n) a
  unfolding entries_at
  ends_entries e from i a zero l = ends_here i a l
  ends_entries e from i a (suc n) l = ends_then (name_at e bs a) _ a (ends_name e a l) (λ x q h.
      ends_unless (differ e && among x (names e bs from i)) _ a q (ends_then (rest_at e bs q) _ q (ends_rest e q h) (λ y r g. ends_entries e from (i + 1) r n g)))

  pub ends_conditions : (a : ℕ) → a ≤ length bs → Ends (conditions_at bs a) a
  unfolding conditions_at
  ends_conditions a l = go (ltb a (length bs))
    where
      go : (b : Bool) → Ends (cond b (and_then (count_at bs 0 4 a) (λ n p. and_then (entries_at Condition bs p 0 p n) (λ _ q. got (parameters bs p (3 * n)) q))) (got [] a)) a
      go true = ends_then (count_at bs 0 4 a) _ a (ends_count 0 4 a) (λ n p h.
          ends_then (entries_at Condition bs p 0 p n) _ p (ends_entries Condition p 0 p n h) (λ _ q g. ends_here (parameters bs p (3 * n)) q g))
      go false = ends_here [] a l

  pub ends_selection : (a : ℕ) → Ends (selection_at bs a) a
  unfolding selection_at
  ends_selection a = ends_then (identifier_at bs a) _ a (ends_identifier a) (λ x p _.
      ends_then (count_at bs 0 12 p) _ p (ends_count 0 12 p) (λ n q h.
      ends_then (entries_at Name bs q 0 q n) _ q (ends_entries Name q 0 q n h) (λ _ r g.
      ends_then (conditions_at bs r) _ r (ends_conditions r g) (λ t e f. ends_here _ e f))))

  -- ENTRIES one behind the other, whatever columns they name
  pub passed_by : Entry → ℕ → ℕ → Read ℕ
  passed_by e a zero = got 0 a
  passed_by e a (suc n) = and_then (name_at e bs a) (λ _ q. and_then (rest_at e bs q) (λ _ r. passed_by e r n))

  pub none_passed : (e : Entry) (a : ℕ) → passed_by e a 0 ≡ got 0 a
  unfolding passed_by
  none_passed e a = refl

  -- the first of them, and those behind it
  pub record FirstEntry (e : Entry) (a n end : ℕ) : Type 0 where
    pub name : List ℕ
    pub behind_name : ℕ
    pub rest : ℕ
    pub next : ℕ
    pub names_it : name_at e bs a ≡ got name behind_name
    pub goes_on : rest_at e bs behind_name ≡ got rest next
    pub others : passed_by e next n ≡ got 0 end

  pub first_entry : (e : Entry) (a n end : ℕ) → passed_by e a (suc n) ≡ got 0 end → FirstEntry e a n end
  unfolding passed_by
  first_entry e a n end h =
      let i = got_then (name_at e bs a) (λ _ q. and_then (rest_at e bs q) (λ _ r. passed_by e r n)) 0 end h in
      let j = got_then (rest_at e bs i.1) (λ _ r. passed_by e r n) 0 end i.3 in
      record { name = i.0; behind_name = i.1; rest = j.0; next = j.1; names_it = i.2; goes_on = j.2; others = j.3 }

  pub ends_passed : (e : Entry) (a n : ℕ) → a ≤ length bs → Ends (passed_by e a n) a
  unfolding passed_by
  ends_passed e a zero l = ends_here 0 a l
  ends_passed e a (suc n) l = ends_then (name_at e bs a) _ a (ends_name e a l) (λ x q h. ends_then (rest_at e bs q) _ q (ends_rest e q h) (λ y r g. ends_passed e r n g))

  pub one_more : (e : Entry) (n a q r s y : ℕ) (x : List ℕ) → passed_by e a n ≡ got 0 q → name_at e bs q ≡ got x r → rest_at e bs r ≡ got y s → passed_by e a (suc n) ≡ got 0 s
  unfolding passed_by
  one_more e zero a q r s y x h f g = let v : a ≡ q = got_end h in rw (v, f, g) refl
  one_more e (suc n) a q r s y x h f g =
      let i = first_entry e a n q h in
      let ih = one_more e n i.next q r s y x i.others f g in
      rw (i.names_it, i.goes_on) ih

  -- entries that were read were passed by, and are counted
  pub entries_got : (e : Entry) (from i a n c r : ℕ) → entries_at e bs from i a n ≡ got c r → (c ≡ i + n) × (passed_by e a n ≡ got 0 r)
  unfolding passed_by entries_at
  entries_got e from i a zero c r h = let v : i ≡ c = got_value h in let w : a ≡ r = got_end h in (omega arith, ap (got 0) w)
  entries_got e from i a (suc n) c r h =
      let j = got_then (name_at e bs a) _ c r h in
      let k = got_unless (differ e && among j.0 (names e bs from i)) _ a c r j.3 in
      let l = got_then (rest_at e bs j.1) _ c r k.1 in
      let ih = entries_got e from (i + 1) l.1 n c r l.3 in
      (let v = ih.0 in omega arith, rw (j.2, l.2) ih.1)

  -- PARAMETERS one behind the other
  pub params_by : ℕ → ℕ → Read ℕ
  params_by a zero = got 0 a
  params_by a (suc n) = and_then (param_at bs a) (λ _ q. params_by q n)

  pub first_param : (a n end : ℕ) → params_by a (suc n) ≡ got 0 end → (x : Parameter) × (q : ℕ) × (param_at bs a ≡ got x q) × (params_by q n ≡ got 0 end)
  unfolding params_by
  first_param a n end h = got_then (param_at bs a) (λ _ q. params_by q n) 0 end h

  pub ends_params : (a n : ℕ) → a ≤ length bs → Ends (params_by a n) a
  unfolding params_by
  ends_params a zero l = ends_here 0 a l
  ends_params a (suc n) l = ends_then (param_at bs a) _ a (ends_param a) (λ x q h. ends_params q n h)

  -- identifiers, operators and definitions of columns are parameters
  identifier_param : (a : ℕ) (x : Parameter) (q : ℕ) → identifier_at bs a ≡ got x q → param_at bs a ≡ got x q
  unfolding identifier_at
  identifier_param a x q h =
      let i = got_then (param_at bs a) _ x q h in
      let j = got_if (identifies i.0.bytes) (got i.0 i.1) a x q i.3 in i.2 ∙ j.1

  operator_param : (a : ℕ) (x : Operator) (q : ℕ) → operator_at bs a ≡ got x q → (y : Parameter) × (param_at bs a ≡ got y q)
  unfolding operator_at byte_at
  operator_param a x q h =
      let i = got_then (byte_at bs a) _ x q h in
      let o = got_or (coded_by i.0) a _ x q i.3 in
      let v : i.1 ≡ q = got_end o.2 in
      let j = got_then (param_at bs a) _ i.0 i.1 i.2 in
      let k = got_if (eqb (length j.0.bytes) 1) (got (get_or j.0.bytes 0 0) j.1) a i.0 i.1 j.3 in
      let w : j.1 ≡ i.1 = got_end k.1 in
      (j.0, j.2 ∙ ap (got j.0) (w ∙ v))

  -- a name is one parameter, a column's definition another, and a condition three
  pub name_params : (a n end : ℕ) → passed_by Name a n ≡ got 0 end → params_by a n ≡ got 0 end
  unfolding passed_by params_by name_at rest_at
  name_params a zero end h = h
  name_params a (suc n) end h =
      let i = first_entry Name a n end h in
      let j = got_then (identifier_at bs a) _ i.name i.behind_name i.names_it in
      let v : j.1 ≡ i.next = got_end j.3 ∙ got_end i.goes_on in
      rw (identifier_param a j.0 j.1 j.2, v) (name_params i.next n end i.others)

  definition_param : (a : ℕ) (x : List ℕ) (q : ℕ) → name_at Definition bs a ≡ got x q → (y : Parameter) × (c : Column) × (param_at bs a ≡ got y q) × (column_of y.bytes ≡ Some c)
  unfolding name_at
  definition_param a x q h =
      let i = got_then (param_at bs a) _ x q h in
      let o = got_or (column_of i.0.bytes) a _ x q i.3 in
      let v : i.1 ≡ q = got_end o.2 in
      (i.0, o.0, i.2 ∙ ap (got i.0) v, o.1)

  pub definition_params : (a n end : ℕ) → passed_by Definition a n ≡ got 0 end → params_by a n ≡ got 0 end
  unfolding passed_by params_by rest_at
  definition_params a zero end h = h
  definition_params a (suc n) end h =
      let i = first_entry Definition a n end h in
      let j = definition_param a i.name i.behind_name i.names_it in
      let v : i.behind_name ≡ i.next = got_end i.goes_on in
      rw (j.2, v) (definition_params i.next n end i.others)

  pub condition_params : (a n end : ℕ) → passed_by Condition a n ≡ got 0 end → params_by a (3 * n) ≡ got 0 end
  unfolding passed_by params_by name_at rest_at
  condition_params a zero end h = h
  condition_params a (suc n) end h =
      let i = first_entry Condition a n end h in
      let j = got_then (identifier_at bs a) _ i.name i.behind_name i.names_it in
      let k = got_then (operator_at bs i.behind_name) _ i.rest i.next i.goes_on in
      let o = operator_param i.behind_name k.0 k.1 k.2 in
      let l = got_then (param_at bs k.1) _ i.rest i.next k.3 in
      let v : j.1 ≡ i.behind_name = got_end j.3 in
      let w : l.1 ≡ i.next = got_end l.3 in
      let ih = condition_params i.next n end i.others in
      let three : suc (suc (suc (3 * n))) ≡ 3 * suc n = omega arith in
      let all : params_by a (suc (suc (suc (3 * n)))) ≡ got 0 end = rw (identifier_param a j.0 j.1 j.2, v, o.1, l.2, w) ih in
      subst (λ t. params_by a t ≡ got 0 end) three all

  -- every column that was read is one
  pub parameters_more : (a n q : ℕ) (x : Parameter) → param_at bs a ≡ got x q → parameters bs a (suc n) ≡ x ∷ parameters bs q n
  parameters_more a n q x e = rw e refl

  pub columns_read : (a n end : ℕ) → passed_by Definition a n ≡ got 0 end →
      map Some (somes (map (λ p. column_of p.bytes) (parameters bs a n))) ≡ map (λ p. column_of p.bytes) (parameters bs a n)
  unfolding passed_by rest_at
  columns_read a zero end h = refl
  columns_read a (suc n) end h =
      let i = first_entry Definition a n end h in
      let j = definition_param a i.name i.behind_name i.names_it in
      let v : i.behind_name ≡ i.next = got_end i.goes_on in
      subst (λ ps. map Some (somes (map (λ (p : Parameter). column_of p.bytes) ps)) ≡ map (λ p. column_of p.bytes) ps)
      (sym (parameters_more a n i.next j.0 (j.2 ∙ ap (got j.0) v)))
      (somes_more (λ p. column_of p.bytes) j.0 j.1 (parameters bs i.next n) j.3 (columns_read i.next n end i.others))
