-- How many elements that are seen stand before a place. Where the next one stands is told by what is seen alone.
use Rattle.std.proofs.Common.{◌≡◌, ℕ, zero, suc, ◌<◌, Bool, true, false, cond, List, [], ◌∷◌, map, length, set, Some, None, filter, Option, refl, ap, ◌∙◌, arith}
use mathlib.Core.List.{head-eq_of_cons-eq, tail-eq_of_cons-eq}
use Rattle.std.specs.Option.{option_map}
use Rattle.std.proofs.lemmas.Bool.{both_ways}
use Rattle.cardmodel.specs.Lists.{next_place}
use Rattle.cardmodel.proofs.Lists.{In, here, there, nth, none_some, some_inj}

module _ {A B : Type 0} where
  abbrev pub rank : (B → Bool) → (A → B) → List A → ℕ → ℕ
  rank v h xs zero = 0
  rank v h [] (suc i) = 0
  rank v h (x ∷ xs) (suc i) = cond (v (h x)) (suc (rank v h xs i)) (rank v h xs i)

module _ {A B : Type 0} (v : B → Bool) (h : A → B) where
  -- what is seen of a list
  abbrev pub seen_of : List A → List B
  seen_of xs = filter v (map h xs)

  pub nth_seen : (xs : List A) (i : ℕ) (x : A) → nth xs i ≡ Some x → v (h x) ≡ true → nth (seen_of xs) (rank v h xs i) ≡ Some (h x)
  nth_seen [] i x e p = absurd (none_some e)
  nth_seen (y ∷ xs) zero x e p =
      let q : y ≡ x = some_inj e in
      let w : v (h y) ≡ true = cc in rw w (ap {B = Option B} (λ z. Some (h z)) q)
  nth_seen (y ∷ xs) (suc i) x e p =
      elim (v (h y)) as (λ b. nth (cond b (h y ∷ seen_of xs) (seen_of xs)) (cond b (suc (rank v h xs i)) (rank v h xs i)) ≡ Some (h x))
      [ true ↦ nth_seen xs i x e p | false ↦ nth_seen xs i x e p ]

  pub rank_suc : (xs : List A) (i : ℕ) (x : A) → nth xs i ≡ Some x → v (h x) ≡ true → rank v h xs (suc i) ≡ suc (rank v h xs i)
  rank_suc [] i x e p = absurd (none_some e)
  rank_suc (y ∷ xs) zero x e p =
      let q : y ≡ x = some_inj e in
      let w : v (h y) ≡ true = cc in rw w
  rank_suc (y ∷ xs) (suc i) x e p =
      rw (rank_suc xs i x e p)
      (elim (v (h y)) as (λ b. cond b (suc (suc (rank v h xs i))) (suc (rank v h xs i)) ≡ suc (cond b (suc (rank v h xs i)) (rank v h xs i))) [ true ↦ refl | false ↦ refl ])

  -- an element that is seen is replaced by one that is seen
  pub seen_set : (xs : List A) (i : ℕ) (x y : A) → nth xs i ≡ Some x → v (h x) ≡ true → v (h y) ≡ true → seen_of (set xs i y) ≡ set (seen_of xs) (rank v h xs i) (h y)
  seen_set [] i x y e p q = absurd (none_some e)
  seen_set (z ∷ xs) zero x y e p q =
      let r : z ≡ x = some_inj e in
      let w : v (h z) ≡ true = cc in rw (w, q)
  seen_set (z ∷ xs) (suc i) x y e p q =
      elim (v (h z)) as (λ b. cond b (h z ∷ seen_of (set xs i y)) (seen_of (set xs i y)) ≡ set (cond b (h z ∷ seen_of xs) (seen_of xs)) (cond b (suc (rank v h xs i)) (rank v h xs i)) (h y))
      [ true ↦ ap {B = List B} (λ l. h z ∷ l) (seen_set xs i x y e p q) | false ↦ seen_set xs i x y e p q ]

  pub rank_set : (xs : List A) (i : ℕ) (y : A) → rank v h (set xs i y) i ≡ rank v h xs i
  rank_set [] i y = refl
  rank_set (z ∷ xs) zero y = refl
  rank_set (z ∷ xs) (suc i) y = rw (rank_set xs i y)

  -- where all is seen
  module _ (all_seen : (x : A) → v (h x) ≡ true) where
    pub seen_all : (xs : List A) → seen_of xs ≡ map h xs
    seen_all [] = refl
    seen_all (x ∷ xs) = rw (all_seen x, seen_all xs)

    pub rank_all : (xs : List A) (i : ℕ) → i < length xs → rank v h xs i ≡ i
    rank_all [] i l = absurd (omega arith)
    rank_all (y ∷ xs) zero l = refl
    rank_all (y ∷ xs) (suc i) l = rw (all_seen y, rank_all xs i (omega arith))

  -- the first that passes a test of what is seen
  module _ (q : B → Bool) (only_seen : (b : B) → v b ≡ false → q b ≡ false) where
    mapped_later : (f g : ℕ → ℕ) (o : Option ℕ) → ((i : ℕ) → g (suc i) ≡ suc (f i)) → option_map g (option_map suc o) ≡ option_map suc (option_map f o)
    mapped_later f g None e = refl
    mapped_later f g (Some i) e = ap {B = Option ℕ} Some (e i)

    mapped_skip : (f g : ℕ → ℕ) (o : Option ℕ) → ((i : ℕ) → g (suc i) ≡ f i) → option_map g (option_map suc o) ≡ option_map f o
    mapped_skip f g None e = refl
    mapped_skip f g (Some i) e = ap {B = Option ℕ} Some (e i)

    stepped : (x : A) (xs : List A) (b c : Bool) → v (h x) ≡ b → q (h x) ≡ c → option_map (rank v h xs) (next_place (λ x. q (h x)) xs zero) ≡ next_place q (seen_of xs) zero →
        option_map (rank v h (x ∷ xs)) (cond (q (h x)) (Some zero) (option_map suc (next_place (λ x. q (h x)) xs zero))) ≡ next_place q (cond (v (h x)) (h x ∷ seen_of xs) (seen_of xs)) zero
    stepped x xs true true e w ih = rw (e, w)
    stepped x xs true false e w ih =
        rw (e, w) (mapped_later (rank v h xs) (rank v h (x ∷ xs)) (next_place (λ x. q (h x)) xs zero) (λ i. rw e) ∙ ap (option_map suc) ih)
    stepped x xs false true e w ih = absurd (both_ways (q (h x)) (only_seen (h x) e) w)
    stepped x xs false false e w ih = rw (e, w) (mapped_skip (rank v h xs) (rank v h (x ∷ xs)) (next_place (λ x. q (h x)) xs zero) (λ i. rw e) ∙ ih)

    skipped : (x : A) (xs : List A) (k : ℕ) (b : Bool) → v (h x) ≡ b → option_map (rank v h xs) (next_place (λ x. q (h x)) xs k) ≡ next_place q (seen_of xs) (rank v h xs k) →
        option_map (rank v h (x ∷ xs)) (option_map suc (next_place (λ x. q (h x)) xs k))
        ≡ next_place q (cond (v (h x)) (h x ∷ seen_of xs) (seen_of xs)) (cond (v (h x)) (suc (rank v h xs k)) (rank v h xs k))
    skipped x xs k true e ih = rw e (mapped_later (rank v h xs) (rank v h (x ∷ xs)) (next_place (λ x. q (h x)) xs k) (λ i. rw e) ∙ ap (option_map suc) ih)
    skipped x xs k false e ih = rw e (mapped_skip (rank v h xs) (rank v h (x ∷ xs)) (next_place (λ x. q (h x)) xs k) (λ i. rw e) ∙ ih)

    pub next_seen : (xs : List A) (k : ℕ) → option_map (rank v h xs) (next_place (λ x. q (h x)) xs k) ≡ next_place q (seen_of xs) (rank v h xs k)
    next_seen [] k = refl
    next_seen (x ∷ xs) zero = stepped x xs (v (h x)) (q (h x)) refl refl (next_seen xs zero)
    next_seen (x ∷ xs) (suc k) = skipped x xs k (v (h x)) refl (next_seen xs k)

-- lists are equal if their elements are told apart
pub map_tells : {A B : Type 0} (h : A → B) (xs ys : List A) → ((x y : A) → In x xs → In y ys → h x ≡ h y → x ≡ y) → map h xs ≡ map h ys → xs ≡ ys
map_tells h [] [] i e = refl
map_tells h [] (y ∷ ys) i e = cc
map_tells h (x ∷ xs) [] i e = cc
map_tells h (x ∷ xs) (y ∷ ys) i e =
    let p : x ≡ y = i x y here here (head-eq_of_cons-eq e) in
    let t : xs ≡ ys = map_tells h xs ys (λ a b j k. i a b (there j) (there k)) (tail-eq_of_cons-eq e) in cc
