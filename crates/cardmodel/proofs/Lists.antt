-- Lists: what stands in them, what is found, and what is kept.
use Rattle.std.proofs.Common.{◌≡◌, ℕ, zero, suc, ◌<◌, ◌≤◌, Bool, true, false, cond, ◌&&◌, ◌||◌, ◌⊎◌, List, [], ◌∷◌, ◌++◌, length, get_or, set, Some, None, sum_by, filter, Option, sym, refl, ap, ◌∙◌, subst, inl, inr, arith}
use Rattle.std.specs.List.{remove, AllByRecursion}
use Rattle.std.specs.Option.{option_map}
use Rattle.std.proofs.lemmas.List.Sums.{sum_by-cons}
use Rattle.std.proofs.lemmas.Bool.{both_ways, and_from, or_cases, or_parts, or_right, or_from}
use Rattle.cardmodel.specs.Lists.{any, all, first, next_place}

-- an element of a list
pub data In {A : Type 0} (x : A) : List A → Type 0 where
  here : {xs : List A} → In x (x ∷ xs)
  there : {y : A} {xs : List A} → In x xs → In x (y ∷ xs)

module _ {A : Type 0} where
  pub some_inj : {x y : A} → Some x ≡ Some y → x ≡ y
  some_inj e = cc

  pub none_some : {x : A} → None ≡ Some x → ⊥
  none_some e = let z : ◌≡◌ {A = ℕ} 0 1 = cc in omega arith

  -- two lists joined
  -- what holds of all
  pub all-In : (P : A → Type 0) {x : A} {xs : List A} → AllByRecursion P xs → In x xs → P x
  all-In P a here = a.0
  all-In P a (there i) = all-In P a.1 i

  pub In-all : (P : A → Type 0) (xs : List A) → ((x : A) → In x xs → P x) → AllByRecursion P xs
  In-all P [] h = tt
  In-all P (x ∷ xs) h = (h x here, In-all P xs (λ y i. h y (there i)))

  -- some pass a test
  pub any-In : (p : A → Bool) {x : A} {xs : List A} → In x xs → p x ≡ true → any p xs ≡ true
  any-In p here h = rw h
  any-In p {x} (there {y = y} {xs = xs} i) h = or_right (p y) (any p xs) (any-In p i h)

  pub none-In : (p : A → Bool) {x : A} {xs : List A} → In x xs → any p xs ≡ false → p x ≡ false
  none-In p {x} (here {xs = xs}) h = (or_parts (p x) (any p xs) h).0
  none-In p (there {y = y} {xs = xs} i) h = none-In p i (or_parts (p y) (any p xs) h).1

  pub any_some : (p : A → Bool) (xs : List A) → any p xs ≡ true → (x : A) × In x xs × (p x ≡ true)
  any_some p [] e = absurd (both_ways false refl e)
  any_some p (x ∷ xs) e = go (or_cases (p x) (any p xs) e) (any_some p xs)
    where
      go : ((p x ≡ true) ⊎ (any p xs ≡ true)) → (any p xs ≡ true → (y : A) × In y xs × (p y ≡ true)) → (y : A) × In y (x ∷ xs) × (p y ≡ true)
      go (inl h) ih = (x, here, h)
      go (inr h) ih = let r = ih h in (r.0, there r.1, r.2)

  pub any_none : (p : A → Bool) (xs : List A) → ((x : A) → In x xs → p x ≡ false) → any p xs ≡ false
  any_none p [] h = refl
  any_none p (x ∷ xs) h = or_from (p x) (any p xs) (h x here) (any_none p xs (λ y i. h y (there i)))

  pub any-++ : (p : A → Bool) (xs ys : List A) → any p (xs ++ ys) ≡ (any p xs || any p ys)
  any-++ p [] ys = refl
  any-++ p (x ∷ xs) ys = elim (p x) as (λ b. (b || any p (xs ++ ys)) ≡ ((b || any p xs) || any p ys)) [ true ↦ refl | false ↦ any-++ p xs ys ]

  pub any_more : (p q : A → Bool) → ((x : A) → p x ≡ true → q x ≡ true) → (xs : List A) → any p xs ≡ true → any q xs ≡ true
  any_more p q h xs e = let r = any_some p xs e in any-In q r.1 (h r.0 r.2)

  -- the first that passes
  pub first-In : (p : A → Bool) (xs : List A) (x : A) → first p xs ≡ Some x → In x xs × (p x ≡ true)
  first-In p [] x e = absurd (none_some e)
  first-In p (y ∷ xs) x e = go (p y) refl (first-In p xs x) e
    where
      go : (b : Bool) → p y ≡ b → (first p xs ≡ Some x → In x xs × (p x ≡ true)) → cond b (Some y) (first p xs) ≡ Some x → In x (y ∷ xs) × (p x ≡ true)
      go true h ih e = let q : y ≡ x = some_inj e in (subst (λ z. In z (y ∷ xs)) q here, subst (λ z. p z ≡ true) q h)
      go false h ih e = let r = ih e in (there r.0, r.1)

  pub first_none : (p : A → Bool) (xs : List A) → first p xs ≡ None → any p xs ≡ false
  first_none p [] e = refl
  first_none p (y ∷ xs) e = go (p y) refl (first_none p xs) e
    where
      go : (b : Bool) → p y ≡ b → (first p xs ≡ None → any p xs ≡ false) → cond b (Some y) (first p xs) ≡ None → (p y || any p xs) ≡ false
      go true h ih e = absurd (none_some (sym e))
      go false h ih e = rw h (ih e)

  pub none_first : (p : A → Bool) (xs : List A) → any p xs ≡ false → first p xs ≡ None
  none_first p [] e = refl
  none_first p (x ∷ xs) e = let h = or_parts (p x) (any p xs) e in rw h.0 (none_first p xs h.1)

  pub first_found : (p : A → Bool) (xs ys : List A) (x : A) → first p xs ≡ Some x → first p (xs ++ ys) ≡ Some x
  first_found p [] ys x e = absurd (none_some e)
  first_found p (y ∷ xs) ys x e = go (p y) (first_found p xs ys x) e
    where
      go : (b : Bool) → (first p xs ≡ Some x → first p (xs ++ ys) ≡ Some x) → cond b (Some y) (first p xs) ≡ Some x → cond b (Some y) (first p (xs ++ ys)) ≡ Some x
      go true ih e = e
      go false ih e = ih e

  -- those that are kept
  pub In-kept : (p : A → Bool) {x : A} {xs : List A} → p x ≡ true → In x xs → In x (filter p xs)
  In-kept p {x} h (here {xs = xs}) = rw h here
  In-kept p {x} h (there {y = y} {xs = xs} i) = elim (p y) as (λ b. In x (cond b (y ∷ filter p xs) (filter p xs))) [ true ↦ there (In-kept p h i) | false ↦ In-kept p h i ]

  kept_back : (p : A → Bool) {y x : A} {xs : List A} (zs : List A) → p y ≡ true → In x (y ∷ zs) → (In x zs → In x xs × (p x ≡ true)) → In x (y ∷ xs) × (p x ≡ true)
  kept_back p zs h here ih = (here, h)
  kept_back p zs h (there j) ih = let r = ih j in (there r.0, r.1)

  pub kept-In : (p : A → Bool) {x : A} (xs : List A) → In x (filter p xs) → In x xs × (p x ≡ true)
  kept-In p [] i = elim i [ ]
  kept-In p {x} (y ∷ xs) i = go (p y) refl (kept-In p {x = x} xs) i
    where
      go : (b : Bool) → p y ≡ b → (In x (filter p xs) → In x xs × (p x ≡ true)) → In x (cond b (y ∷ filter p xs) (filter p xs)) → In x (y ∷ xs) × (p x ≡ true)
      go true h ih j = kept_back p (filter p xs) h j ih
      go false h ih j = let r = ih j in (there r.0, r.1)

  pub kept-++ : (p : A → Bool) (xs ys : List A) → filter p (xs ++ ys) ≡ filter p xs ++ filter p ys
  kept-++ p [] ys = refl
  kept-++ p (x ∷ xs) ys = elim (p x) as (λ b. cond b (x ∷ filter p (xs ++ ys)) (filter p (xs ++ ys)) ≡ cond b (x ∷ filter p xs) (filter p xs) ++ filter p ys)
      [ true ↦ ap {B = List A} (λ l. x ∷ l) (kept-++ p xs ys) | false ↦ kept-++ p xs ys ]

  pub kept_alike : (p q : A → Bool) (xs : List A) → ((x : A) → In x xs → p x ≡ q x) → filter p xs ≡ filter q xs
  kept_alike p q [] h = refl
  kept_alike p q (x ∷ xs) h = rw (h x here, kept_alike p q xs (λ y i. h y (there i)))

  pub kept_kept : (p q : A → Bool) (xs : List A) → filter p (filter q xs) ≡ filter (λ x. q x && p x) xs
  kept_kept p q [] = refl
  kept_kept p q (x ∷ xs) = elim (q x) as (λ b. filter p (cond b (x ∷ filter q xs) (filter q xs)) ≡ cond (b && p x) (x ∷ filter (λ x. q x && p x) xs) (filter (λ x. q x && p x) xs))
      [ true ↦ rw (kept_kept p q xs) | false ↦ kept_kept p q xs ]

  pub any_kept : (p q : A → Bool) (xs : List A) → ((x : A) → In x xs → p x ≡ true → q x ≡ true) → any p (filter q xs) ≡ any p xs
  any_kept p q [] h = refl
  any_kept p q (x ∷ xs) h = go (q x) refl (p x) refl (any_kept p q xs (λ y i. h y (there i)))
    where
      go : (b : Bool) → q x ≡ b → (d : Bool) → p x ≡ d → any p (filter q xs) ≡ any p xs → any p (cond (q x) (x ∷ filter q xs) (filter q xs)) ≡ (p x || any p xs)
      go true e d f ih = rw (e, ih)
      go false e true f ih = absurd (both_ways (q x) e (h x here f))
      go false e false f ih = rw (e, f) ih

  pub any_fewer : (p q : A → Bool) (xs : List A) → any p xs ≡ false → any p (filter q xs) ≡ false
  any_fewer p q xs e = any_none p (filter q xs) (λ x i. none-In p (kept-In q xs i).0 e)

  -- the element at a place
  abbrev pub nth : List A → ℕ → Option A
  nth [] i = None
  nth (x ∷ xs) zero = Some x
  nth (x ∷ xs) (suc i) = nth xs i

  pub nth_below : (xs : List A) (i : ℕ) (d : A) → i < length xs → nth xs i ≡ Some (get_or xs i d)
  nth_below [] i d h = absurd (omega arith)
  nth_below (x ∷ xs) zero d h = refl
  nth_below (x ∷ xs) (suc i) d h = nth_below xs i d (omega arith)

  pub nth-get_or : (xs : List A) (i : ℕ) (x d : A) → nth xs i ≡ Some x → get_or xs i d ≡ x
  nth-get_or [] i x d e = absurd (none_some e)
  nth-get_or (y ∷ xs) zero x d e = some_inj e
  nth-get_or (y ∷ xs) (suc i) x d e = nth-get_or xs i x d e

  pub nth_length : (xs : List A) (i : ℕ) (x : A) → nth xs i ≡ Some x → i < length xs
  nth_length [] i x e = absurd (none_some e)
  nth_length (y ∷ xs) zero x e = omega arith
  nth_length (y ∷ xs) (suc i) x e = let h = nth_length xs i x e in omega arith

  pub nth-In : (xs : List A) (i : ℕ) (x : A) → nth xs i ≡ Some x → In x xs
  nth-In [] i x e = absurd (none_some e)
  nth-In (y ∷ xs) zero x e = subst (λ z. In z (y ∷ xs)) (some_inj e) here
  nth-In (y ∷ xs) (suc i) x e = there (nth-In xs i x e)

  -- what is found stays found while it is kept
  pub first_stays : (p q : A → Bool) (xs : List A) (x : A) → first p xs ≡ Some x → q x ≡ true → first p (filter q xs) ≡ Some x
  first_stays p q [] x e k = absurd (none_some e)
  first_stays p q (y ∷ xs) x e k = go (p y) refl (q y) refl (λ f. first_stays p q xs x f k) e
    where
      go : (b : Bool) → p y ≡ b → (d : Bool) → q y ≡ d → (first p xs ≡ Some x → first p (filter q xs) ≡ Some x) →
          cond b (Some y) (first p xs) ≡ Some x → first p (cond d (y ∷ filter q xs) (filter q xs)) ≡ Some x
      go true h true g ih e = rw h e
      go true h false g ih e = absurd (both_ways (q y) g (subst (λ z. q z ≡ true) (sym (some_inj e)) k))
      go false h true g ih e = rw h (ih e)
      go false h false g ih e = ih e

  -- keeping makes no list longer
  pub kept_no_longer : (p q : A → Bool) (xs : List A) → length (filter p (filter q xs)) ≤ length (filter p xs)
  kept_no_longer p q [] = omega arith
  kept_no_longer p q (x ∷ xs) = go (p x) refl (q x) (kept_no_longer p q xs)
    where
      go : (b : Bool) → p x ≡ b → (d : Bool) → length (filter p (filter q xs)) ≤ length (filter p xs) →
          length (filter p (cond d (x ∷ filter q xs) (filter q xs))) ≤ length (cond b (x ∷ filter p xs) (filter p xs))
      go true h true l = rw h (omega arith)
      go true h false l = omega arith
      go false h true l = rw h l
      go false h false l = l

  -- a sum over those that count for nothing
  pub sum_nothing : (f : A → ℕ) (p : A → Bool) (xs : List A) → ((x : A) → In x xs → p x ≡ true → f x ≡ 0) → sum_by f (filter p xs) ≡ 0
  sum_nothing f p [] h = refl
  sum_nothing f p (x ∷ xs) h = go (p x) refl (sum_nothing f p xs (λ y i. h y (there i)))
    where
      go : (b : Bool) → p x ≡ b → sum_by f (filter p xs) ≡ 0 → sum_by f (cond b (x ∷ filter p xs) (filter p xs)) ≡ 0
      go true e ih = let z = h x here e in sum_by-cons f x (filter p xs) ∙ omega arith
      go false e ih = ih

  -- what all pass, from each element
  pub all_true_from : (p : A → Bool) (xs : List A) → ((x : A) → In x xs → p x ≡ true) → all p xs ≡ true
  all_true_from p [] h = refl
  all_true_from p (x ∷ xs) h = and_from (p x) (all p xs) (h x here) (all_true_from p xs (λ y i. h y (there i)))

  -- an element is the first, or one of the others
  pub In-first : {y x : A} {xs : List A} → In x (y ∷ xs) → (x ≡ y) ⊎ In x xs
  In-first here = inl refl
  In-first (there i) = inr i

  -- an element after one is replaced, and with one removed
  pub In-set : (xs : List A) (i : ℕ) (y : A) {x : A} → In x (set xs i y) → In x xs ⊎ (x ≡ y)
  In-set [] i y m = elim m [ ]
  In-set (z ∷ xs) zero y here = inr refl
  In-set (z ∷ xs) zero y (there m) = inl (there m)
  In-set (z ∷ xs) (suc i) y here = inl here
  In-set (z ∷ xs) (suc i) y {x} (there m) = go (In-set xs i y m)
    where
      go : (In x xs ⊎ (x ≡ y)) → In x (z ∷ xs) ⊎ (x ≡ y)
      go (inl j) = inl (there j)
      go (inr e) = inr e

  pub In-removed : (xs : List A) (i : ℕ) {x : A} → In x (remove xs i) → In x xs
  In-removed [] zero m = elim m [ ]
  In-removed [] (suc i) m = elim m [ ]
  In-removed (z ∷ xs) zero m = there m
  In-removed (z ∷ xs) (suc i) here = here
  In-removed (z ∷ xs) (suc i) (there m) = there (In-removed xs i m)

module _ {A : Type 0} where
  -- the next place that passes
  pub next_place_is : (p : A → Bool) (xs : List A) (k i : ℕ) (d : A) → next_place p xs k ≡ Some i → (i < length xs) × (p (get_or xs i d) ≡ true)
  next_place_is p [] k i d e = absurd (none_some e)
  next_place_is p (x ∷ xs) zero i d e = go (p x) refl (next_place p xs 0) (λ j. next_place_is p xs 0 j d) e
    where
      go : (b : Bool) → p x ≡ b → (o : Option ℕ) → ((j : ℕ) → o ≡ Some j → (j < length xs) × (p (get_or xs j d) ≡ true)) →
          cond b (Some 0) (option_map suc o) ≡ Some i → (i < length (x ∷ xs)) × (p (get_or (x ∷ xs) i d) ≡ true)
      go true h o ih e = subst (λ j. (j < length (x ∷ xs)) × (p (get_or (x ∷ xs) j d) ≡ true)) (some_inj e) (omega arith, h)
      go false h None ih e = absurd (none_some e)
      go false h (Some j) ih e =
          let r = ih j refl in
          let l = r.0 in
          subst (λ j. (j < length (x ∷ xs)) × (p (get_or (x ∷ xs) j d) ≡ true)) (some_inj e) (omega arith, r.1)
  next_place_is p (x ∷ xs) (suc k) i d e = go (next_place p xs k) (λ j. next_place_is p xs k j d) e
    where
      go : (o : Option ℕ) → ((j : ℕ) → o ≡ Some j → (j < length xs) × (p (get_or xs j d) ≡ true)) →
          option_map suc o ≡ Some i → (i < length (x ∷ xs)) × (p (get_or (x ∷ xs) i d) ≡ true)
      go None ih e = absurd (none_some e)
      go (Some j) ih e =
          let r = ih j refl in
          let l = r.0 in
          subst (λ j. (j < length (x ∷ xs)) × (p (get_or (x ∷ xs) j d) ≡ true)) (some_inj e) (omega arith, r.1)
