-- Reading a part of some bytes gives what reading the bytes gives there, as far as the part goes.
use Rattle.std.proofs.Common.{◌≡◌, ℕ, zero, suc, ◌+◌, ◌-◌, ◌*◌, ◌<◌, ◌≤◌, Bool, true, false, cond, ◌&&◌, eqb, ltb, leb, List, [], ◌∷◌, length, get_or, take, drop, Option, sym, refl, ap, ◌∙◌, subst, arith}
use Rattle.std.proofs.lemmas.Bool.{ltb-true, ltb-false, lt-ltb, le-ltb, le-leb}
use Rattle.std.proofs.lemmas.List.{length-take-le, length-drop, get_or-take, get_or-drop, take-take, drop-drop, drop-take}
use Rattle.text.specs.Identifier.{identifies}
use Rattle.text.specs.Operator.{coded_by}
use Rattle.fields.specs.declared.entries.Entry.{Entry}
use Rattle.fields.specs.declared.entries.Entry.TheVariants.{Name, Definition, Assignment, Condition, Text}
use Rattle.fields.specs.Column.{column_of}
use Rattle.fields.specs.Reader.{Read, got, broken, and_then, or_broken, Parameter, parameters, parameter_at, behind, param_at, count_at, identifier_at, byte_at, operator_at}
use Rattle.fields.specs.Entries.{name_at, rest_at, differ, among, names, entries_at}
use Rattle.commands.specs.Command.{Selected}
use Rattle.commands.specs.Parsers.{conditions_at, selection_at}
use Rattle.cardlaws.specs.Definitions.{Says}
use Rattle.cardlaws.proofs.Readings.{texts, got_value, got_end, got_if, got_unless, got_then, got_or, param_got, count_got}
use Rattle.cardlaws.proofs.Readings.{Ends, ends_here, ends_then, ends_if, ends_unless, ends_or, ends_param, ends_count, ends_identifier, ends_byte, ends_operator, ends_name, ends_rest, ends_entries, ends_conditions}
use Rattle.cardlaws.proofs.Readings.{passed_by, first_entry, ends_passed, none_passed, one_more, entries_got, params_by, first_param, ends_params, name_params, condition_params}

same_cons : {A : Type 0} {x y : A} {xs ys : List A} → x ≡ y → xs ≡ ys → x ∷ xs ≡ y ∷ ys
same_cons e f = cc

-- m bytes of a list from p on
module _ (bs : List ℕ) (p m : ℕ) (room : p + m ≤ length bs) where
  abbrev part : List ℕ
  part = take m (drop p bs)

  pub part_length : length part ≡ m
  part_length = length-take-le m (drop p bs) (let l = length-drop p bs in omega arith)

  pub part_at : (q b : ℕ) → q ≡ p + b → b < m → get_or part b 0 ≡ get_or bs q 0
  part_at q b e h = get_or-take m (drop p bs) b 0 h ∙ (get_or-drop p bs b 0 ∙ ap (λ i. get_or bs i 0) (sym e))

  part_bytes : (q b n : ℕ) → q ≡ p + b → b + n ≤ m → take n (drop b part) ≡ take n (drop q bs)
  part_bytes q b n e h =
      let s : m ≡ b + (m - b) = omega arith in
      ap (λ i. take n (drop b (take i (drop p bs)))) s
      ∙ (ap (take n) (drop-take b (m - b) (drop p bs))
      ∙ (take-take n (m - b) (drop b (drop p bs)) (omega arith)
      ∙ (ap (take n) (drop-drop b p bs) ∙ ap (λ i. take n (drop i bs)) (sym e))))

  -- what is got within the part is got from the part, p earlier, and is alike
  abbrev pub Like : {X : Type 0} → (X → X → Type 0) → Read X → Read X → Type 0
  Like {X} R r s = (x : X) (q : ℕ) → r ≡ got x q → q ≤ p + m → (y : X) × (b : ℕ) × (s ≡ got y b) × (q ≡ p + b) × R x y

  like_here : {X : Type 0} (R : X → X → Type 0) (x y : X) (q b : ℕ) → q ≡ p + b → R x y → Like R (got x q) (got y b)
  like_here R x y q b e h z r t l = (y, b, refl, sym (got_end t) ∙ e, subst (λ w. R w y) (got_value t) h)

  like_then : {X Y : Type 0} (R : X → X → Type 0) (Q : Y → Y → Type 0) (r s : Read X) (k l : X → ℕ → Read Y) (a : ℕ) →
      Ends bs r a → ((x : X) (q : ℕ) → q ≤ length bs → Ends bs (k x q) q) → Like R r s →
      ((x y : X) (q b : ℕ) → r ≡ got x q → q ≤ p + m → q ≡ p + b → R x y → Like Q (k x q) (l y b)) → Like Q (and_then r k) (and_then s l)
  like_then R Q r s k l a ends later like next z e t h =
      let i = got_then r k z e t in
      let u = ends i.0 i.1 i.2 in
      let v = later i.0 i.1 u.1 z e i.3 in
      let j : i.1 ≤ p + m = omega arith in
      let w = like i.0 i.1 i.2 j in
      let c = next i.0 w.0 i.1 w.1 i.2 j w.3 w.4 z e i.3 h in
      (c.0, c.1, rw w.2 c.2, c.3, c.4)

  like_if : {X : Type 0} (R : X → X → Type 0) (t d : Bool) (r s : Read X) (f g : ℕ) → d ≡ t → Like R r s → Like R (cond t r (broken f)) (cond d s (broken g))
  like_if R t d r s f g e h x q k l =
      let i = got_if t r f x q k in
      let c = h x q i.1 l in
      (c.0, c.1, rw (e ∙ i.0) c.2, c.3, c.4)

  like_unless : {X : Type 0} (R : X → X → Type 0) (t d : Bool) (r s : Read X) (f g : ℕ) → d ≡ t → Like R r s → Like R (cond t (broken f) r) (cond d (broken g) s)
  like_unless R t d r s f g e h x q k l =
      let i = got_unless t r f x q k in
      let c = h x q i.1 l in
      (c.0, c.1, rw (e ∙ i.0) c.2, c.3, c.4)

  like_or : {X Y : Type 0} (R : Y → Y → Type 0) (o d : Option X) (k l : X → Read Y) (f g : ℕ) → d ≡ o → ((x : X) → Like R (k x) (l x)) → Like R (or_broken o f k) (or_broken d g l)
  like_or R o d k l f g e h x q t b =
      let i = got_or o f k x q t in
      let c = h i.0 x q i.2 b in
      (c.0, c.1, rw (e ∙ i.1) c.2, c.3, c.4)

  -- parameters are alike if their bytes are the same
  abbrev pub SameText : Parameter → Parameter → Type 0
  SameText x y = y.bytes ≡ x.bytes

  like_param : (q b : ℕ) → q ≡ p + b → Like SameText (param_at bs q) (param_at part b)
  unfolding param_at
  like_param q b e x r t l =
      let i = param_got bs q x r t in
      let g : get_or part b 0 ≡ get_or bs q 0 = part_at q b e (omega arith) in
      let n = part_length in
      let h : b + 1 + get_or part b 0 ≤ m = omega arith in (
        parameter_at part b,
        behind part b,
        rw (lt-ltb b (length part) (omega arith), le-leb (behind part b) (length part) (omega arith)) refl,
        omega arith,
        ap (λ j. take j (drop (b + 1) part)) g ∙ (part_bytes (q + 1) (b + 1) (get_or bs q 0) (omega arith) (omega arith) ∙ ap (λ (y : Parameter). y.bytes) (sym i.1)),
      )

  -- other things are alike if they are the same
  abbrev pub Is : {X : Type 0} → X → X → Type 0
  Is x y = y ≡ x

  like_count : (least most q b : ℕ) → q ≡ p + b → Like Is (count_at bs least most q) (count_at part least most b)
  unfolding count_at
  like_count least most q b e x r t l =
      let i = count_got bs least most q x r t in
      let g : get_or part b 0 ≡ get_or bs q 0 = part_at q b e (omega arith) in
      let n = part_length in (
        get_or part b 0,
        b + 1,
        rw (lt-ltb b (length part) (omega arith), ap (λ j. leb least j && leb j most) g ∙ i.3) refl,
        omega arith,
        g ∙ sym i.1,
      )

  like_identifier : (q b : ℕ) → q ≡ p + b → Like SameText (identifier_at bs q) (identifier_at part b)
  unfolding identifier_at
  like_identifier q b e = like_then SameText SameText (param_at bs q) (param_at part b) _ _ q (ends_param bs q)
      (λ x r h. ends_if bs (identifies x.bytes) (got x r) q r (ends_here bs x r h)) (like_param q b e)
      (λ x y r d t l f h. like_if SameText (identifies x.bytes) (identifies y.bytes) (got x r) (got y d) q b (ap identifies h) (like_here SameText x y r d f h))

  like_byte : (q b : ℕ) → q ≡ p + b → Like Is (byte_at bs q) (byte_at part b)
  unfolding byte_at
  like_byte q b e = like_then SameText Is (param_at bs q) (param_at part b) _ _ q (ends_param bs q)
      (λ x r h. ends_if bs (eqb (length x.bytes) 1) _ q r (ends_here bs (get_or x.bytes 0 0) r h)) (like_param q b e)
      (λ x y r d t l f h. like_if Is (eqb (length x.bytes) 1) (eqb (length y.bytes) 1) _ _ q b (ap (λ z. eqb (length z) 1) h)
      (like_here Is (get_or x.bytes 0 0) (get_or y.bytes 0 0) r d f (ap (λ z. get_or z 0 0) h)))

  like_operator : (q b : ℕ) → q ≡ p + b → Like Is (operator_at bs q) (operator_at part b)
  unfolding operator_at
  like_operator q b e = like_then Is Is (byte_at bs q) (byte_at part b) _ _ q (ends_byte bs q)
      (λ x r h. ends_or bs (coded_by x) q _ r (λ o. ends_here bs o r h)) (like_byte q b e)
      (λ x y r d t l f h. like_or Is (coded_by x) (coded_by y) _ _ q b (ap coded_by h) (λ o. like_here Is o o r d f refl))

  identifier_name : (q b : ℕ) → q ≡ p + b → Like Is (and_then (identifier_at bs q) (λ x r. got x.bytes r)) (and_then (identifier_at part b) (λ x r. got x.bytes r))
  identifier_name q b e = like_then SameText Is (identifier_at bs q) (identifier_at part b) _ _ q (ends_identifier bs q) (λ x r h. ends_here bs x.bytes r h) (like_identifier q b e)
      (λ x y r d t l f h. like_here Is x.bytes y.bytes r d f h)

  like_name : (e : Entry) (q b : ℕ) → q ≡ p + b → Like Is (name_at e bs q) (name_at e part b)
  unfolding name_at
  like_name Name q b e = identifier_name q b e
  like_name Definition q b e = like_then SameText Is (param_at bs q) (param_at part b) _ _ q (ends_param bs q)
      (λ x r h. ends_or bs (column_of x.bytes) q _ r (λ c. ends_here bs c.name r h)) (like_param q b e)
      (λ x y r d t l f h. like_or Is (column_of x.bytes) (column_of y.bytes) _ _ q b (ap column_of h) (λ c. like_here Is c.name c.name r d f refl))
  like_name Assignment q b e = identifier_name q b e
  like_name Condition q b e = identifier_name q b e
  like_name Text q b e = like_here Is [] [] q b e refl

  string_rest : (q b : ℕ) → q ≡ p + b → Like {X = ℕ} Is (and_then (param_at bs q) (λ _ r. got 0 r)) (and_then (param_at part b) (λ _ r. got 0 r))
  string_rest q b e = like_then SameText Is (param_at bs q) (param_at part b) _ _ q (ends_param bs q) (λ x r h. ends_here bs 0 r h) (like_param q b e)
      (λ x y r d t l f h. like_here Is 0 0 r d f refl)

  like_rest : (e : Entry) (q b : ℕ) → q ≡ p + b → Like Is (rest_at e bs q) (rest_at e part b)
  unfolding rest_at
  like_rest Name q b e = like_here Is 0 0 q b e refl
  like_rest Definition q b e = like_here Is 0 0 q b e refl
  like_rest Assignment q b e = string_rest q b e
  like_rest Condition q b e = like_then Is Is (operator_at bs q) (operator_at part b) _ _ q (ends_operator bs q)
      (λ x r h. ends_then bs (param_at bs r) _ r (ends_param bs r) (λ y s g. ends_here bs 0 s g)) (like_operator q b e)
      (λ x y r d t l f h. string_rest r d f)
  like_rest Text q b e = string_rest q b e

  -- the names of entries that end within the part
  like_names : (e : Entry) (n q b r : ℕ) → q ≡ p + b → q ≤ p + m → passed_by bs e q n ≡ got 0 r → r ≤ p + m → names e part b n ≡ names e bs q n
  unfolding names
  like_names e zero q b r f l h k = refl
  like_names e (suc n) q b r f l h k =
      let i = first_entry bs e q n r h in
      let u = ends_name bs e q (omega arith) i.name i.behind_name i.names_it in
      let v = ends_rest bs e i.behind_name u.1 i.rest i.next i.goes_on in
      let w = ends_passed bs e i.next n v.1 0 r i.others in
      let c = like_name e q b f i.name i.behind_name i.names_it (omega arith) in
      let d = like_rest e i.behind_name c.1 c.3 i.rest i.next i.goes_on (omega arith) in
      let ih = like_names e n i.next d.1 r d.3 (omega arith) i.others k in
      rw (i.names_it, i.goes_on, c.2, d.2) (same_cons c.4 ih)

  -- entries, behind some that stand from a position on
  pub like_entries : (e : Entry) (from g : ℕ) → from ≡ p + g → from ≤ p + m → (n i q b : ℕ) → q ≡ p + b → q ≤ p + m → passed_by bs e from i ≡ got 0 q →
      Like Is (entries_at e bs from i q n) (entries_at e part g i b n)
  unfolding entries_at
  like_entries e from g f w zero i q b h l s = like_here Is i i q b h refl
  like_entries e from g f w (suc n) i q b h l s =
      like_then Is Is (name_at e bs q) (name_at e part b) _ _ q (ends_name bs e q (omega arith))
      (λ x r k. ends_unless bs (differ e && among x (names e bs from i)) _ q r (ends_then bs (rest_at e bs r) _ r (ends_rest bs e r k) (λ y t j. ends_entries bs e from (i + 1) t n j)))
      (like_name e q b h)
      (λ x y r d t k j v.
      like_unless Is (differ e && among x (names e bs from i)) (differ e && among y (names e part g i)) _ _ q b
      (ap (λ z. differ e && among z (names e part g i)) v ∙ ap (λ z. differ e && among x z) (like_names e i from g q f w s l))
      (like_then Is Is (rest_at e bs r) (rest_at e part d) _ _ r (ends_rest bs e r (omega arith)) (λ z a o. ends_entries bs e from (i + 1) a n o) (like_rest e r d j)
      (λ z z' a c o o' o'' _. like_entries e from g f w n (i + 1) a c o'' o'
      (let more : suc i ≡ i + 1 = omega arith in subst (λ z. passed_by bs e from z ≡ got 0 a) more (one_more bs e i from q r a z x s t o)))))

  -- parameters that end within the part
  pub like_parameters : (n q b r : ℕ) → q ≡ p + b → params_by bs q n ≡ got 0 r → r ≤ p + m → texts (parameters part b n) ≡ texts (parameters bs q n)
  like_parameters zero q b r f h k = refl
  like_parameters (suc n) q b r f h k =
      let i = first_param bs q n r h in
      let u = ends_param bs q i.0 i.1 i.2 in
      let w = ends_params bs i.1 n u.1 0 r i.3 in
      let c = like_param q b f i.0 i.1 i.2 (omega arith) in
      let ih = like_parameters n i.1 c.1 r c.3 i.3 k in
      rw (i.2, c.2) (same_cons c.4 ih)

  -- CONDITIONS AND SELECTIONS, where the part goes to the end of the bytes
  like_both : {X : Type 0} (R : X → X → Type 0) (t d : Bool) (r s v w : Read X) → d ≡ t → Like R r s → Like R v w → Like R (cond t r v) (cond d s w)
  like_both R true d r s v w e h k = λ x q i l. let c = h x q i l in (c.0, c.1, rw e c.2, c.3, c.4)
  like_both R false d r s v w e h k = λ x q i l. let c = k x q i l in (c.0, c.1, rw e c.2, c.3, c.4)

  abbrev SameTexts : List Parameter → List Parameter → Type 0
  SameTexts xs ys = texts ys ≡ texts xs

  module _ (whole : p + m ≡ length bs) where
    ended_alike : (q b : ℕ) → q ≡ p + b → ltb b (length part) ≡ ltb q (length bs)
    ended_alike q b e = go (ltb q (length bs)) refl
      where
        go : (t : Bool) → ltb q (length bs) ≡ t → ltb b (length part) ≡ t
        go true h = let n = part_length in let l = ltb-true q (length bs) h in lt-ltb b (length part) (omega arith)
        go false h = let n = part_length in let l = ltb-false q (length bs) h in le-ltb b (length part) (omega arith)

    like_conditions : (q b : ℕ) → q ≡ p + b → q ≤ p + m → Like SameTexts (conditions_at bs q) (conditions_at part b)
    unfolding conditions_at
    like_conditions q b e l = like_both SameTexts (ltb q (length bs)) (ltb b (length part)) _ _ (got [] q) (got [] b) (ended_alike q b e)
        (like_then Is SameTexts (count_at bs 0 4 q) (count_at part 0 4 b) _ _ q (ends_count bs 0 4 q)
        (λ n r h. ends_then bs (entries_at Condition bs r 0 r n) _ r (ends_entries bs Condition r 0 r n h) (λ _ a g. ends_here bs (parameters bs r (3 * n)) a g))
        (like_count 0 4 q b e)
        (λ n k r d t j f v. subst (λ k. Like SameTexts (and_then (entries_at Condition bs r 0 r n) (λ _ a. got (parameters bs r (3 * n)) a))
        (and_then (entries_at Condition part d 0 d k) (λ _ a. got (parameters part d (3 * k)) a)))
        (sym v) (tests n r d j f)))
        (like_here SameTexts [] [] q b e refl)
      where
        tests : (n r d : ℕ) → r ≤ p + m → r ≡ p + d →
            Like SameTexts (and_then (entries_at Condition bs r 0 r n) (λ _ a. got (parameters bs r (3 * n)) a)) (and_then (entries_at Condition part d 0 d n) (λ _ a. got (parameters part d (3 * n)) a))
        tests n r d j f = like_then Is SameTexts (entries_at Condition bs r 0 r n) (entries_at Condition part d 0 d n) _ _ r (ends_entries bs Condition r 0 r n (omega arith))
            (λ _ a g. ends_here bs (parameters bs r (3 * n)) a g)
            (like_entries Condition r d f j n 0 r d f j (none_passed bs Condition r))
            (λ c c' a b' t l' f' _. like_here SameTexts (parameters bs r (3 * n)) (parameters part d (3 * n)) a b' f'
            (like_parameters (3 * n) r d a f (condition_params bs r n a (entries_got bs Condition r 0 r n c a t).1) l'))

    abbrev SaysIt : Selected → Selected → Type 0
    SaysIt s t = Says t s

    -- from the columns on, and from their count on
    abbrev from_columns : List ℕ → Parameter → ℕ → ℕ → Read Selected
    from_columns f source n q =
        and_then (entries_at Name f q 0 q n) (λ _ r. and_then (conditions_at f r) (λ tests e. got (record { source = source; columns = parameters f q n; conditions = tests }) e))

    abbrev from_count : List ℕ → Parameter → ℕ → Read Selected
    from_count f source a = and_then (count_at f 0 12 a) (λ n q. from_columns f source n q)

    ends_from_columns : (source : Parameter) (n q : ℕ) → q ≤ length bs → Ends bs (from_columns bs source n q) q
    ends_from_columns source n q h = ends_then bs (entries_at Name bs q 0 q n) _ q (ends_entries bs Name q 0 q n h) (λ _ r g.
        ends_then bs (conditions_at bs r) _ r (ends_conditions bs r g) (λ t e f. ends_here bs _ e f))

    like_from_columns : (x y : Parameter) → SameText x y → (n q b : ℕ) → q ≡ p + b → q ≤ p + m → Like SaysIt (from_columns bs x n q) (from_columns part y n b)
    like_from_columns x y h n q b f l = like_then Is SaysIt (entries_at Name bs q 0 q n) (entries_at Name part b 0 b n) _ _ q (ends_entries bs Name q 0 q n (omega arith))
        (λ _ r g. ends_then bs (conditions_at bs r) _ r (ends_conditions bs r g) (λ t e i. ends_here bs _ e i))
        (like_entries Name q b f l n 0 q b f l (none_passed bs Name q))
        (λ c c' r d t j g _. like_then SameTexts SaysIt (conditions_at bs r) (conditions_at part d) _ _ r (ends_conditions bs r (omega arith)) (λ t e i. ends_here bs _ e i) (like_conditions r d g j)
        (λ ts us e k i o w v. like_here SaysIt _ _ e k w (record {
          source = h;
          columns = like_parameters n q b r f (name_params bs q n r (entries_got bs Name q 0 q n c r t).1) j;
          conditions = v;
        })))

    pub like_selection : (q b : ℕ) → q ≡ p + b → Like SaysIt (selection_at bs q) (selection_at part b)
    unfolding selection_at
    like_selection q b e = like_then SameText SaysIt (identifier_at bs q) (identifier_at part b) (λ x a. from_count bs x a) (λ y a. from_count part y a) q (ends_identifier bs q)
        (λ x a _. ends_then bs (count_at bs 0 12 a) _ a (ends_count bs 0 12 a) (λ n r h. ends_from_columns x n r h)) (like_identifier q b e)
        (λ x y a d t l f h. like_then Is SaysIt (count_at bs 0 12 a) (count_at part 0 12 d) (λ n r. from_columns bs x n r) (λ n r. from_columns part y n r) a (ends_count bs 0 12 a)
        (λ n r g. ends_from_columns x n r g) (like_count 0 12 a d f)
        (λ n k r c u j g v. subst (λ k. Like SaysIt (from_columns bs x n r) (from_columns part y k c)) (sym v) (like_from_columns x y h n r c g j)))
