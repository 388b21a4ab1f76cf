-- How the reading of entries goes on from one to the next.
use Rattle.std.proofs.Common.{◌≡◌, ℕ, suc, ◌+◌, ◌-◌, ◌<◌, ◌≤◌, Bool, true, false, cond, ◌&&◌, List, [], ◌∷◌, refl, ap, ◌∙◌, arith}
use Rattle.fields.specs.declared.entries.Entry.{Entry}
use Rattle.fields.specs.Reader.{Read, got, broken, and_then, each}
use Rattle.fields.specs.Entries.{name_at, rest_at, differ, names, among, entries_at}
use Rattle.fields.specs.Names.{entry_at}

left_more : (n i : ℕ) → i < n → n - i ≡ suc (n - (i + 1))
left_more n i h = omega arith

left_none : (n i : ℕ) → n ≤ i → n - i ≡ 0
left_none n i h = omega arith

-- the names of n entries, by the next one
module _ (e : Entry) (bs : List ℕ) (at n : ℕ) where
  pub names_none : n ≡ 0 → names e bs at n ≡ []
  unfolding names
  names_none h = ap (names e bs at) h

  module _ (some : 0 < n) where
    next_name : names e bs at n ≡ each (name_at e bs at) (λ name q. name ∷ each (rest_at e bs q) (λ _ r. names e bs r (n - 1)))
    unfolding names
    next_name = let more : n ≡ suc (n - 1) = omega arith in ap (names e bs at) more

    pub names_broken : (p : ℕ) → name_at e bs at ≡ broken p → names e bs at n ≡ []
    names_broken p k = next_name ∙ ap (λ x. each x (λ name q. name ∷ each (rest_at e bs q) (λ _ r. names e bs r (n - 1)))) k

    -- a name whose entry is read, as far as that goes
    module _ (x : List ℕ) (q : ℕ) (k : name_at e bs at ≡ got x q) where
      pub names_by : (r : Read ℕ) → rest_at e bs q ≡ r → names e bs at n ≡ x ∷ each r (λ _ s. names e bs s (n - 1))
      names_by r h =
          next_name ∙ ap (λ y. each y (λ name p. name ∷ each (rest_at e bs p) (λ _ s. names e bs s (n - 1)))) k
          ∙ ap (λ y. x ∷ each y (λ _ s. names e bs s (n - 1))) h

-- the entries that are left, after i of n
module _ (e : Entry) (bs : List ℕ) (from at n i : ℕ) where
  pub entries_all : n ≤ i → i ≤ n → entries_at e bs from i at (n - i) ≡ got n at
  unfolding entries_at
  entries_all h k = ap (entries_at e bs from i at) (left_none n i h) ∙ ap (λ m. got m at) (omega arith)

  -- the next one, and those behind it
  left : Read ℕ → Read ℕ
  left r = and_then r (λ _ q. entries_at e bs from (i + 1) q (n - (i + 1)))

  pub entries_by : (r : Read ℕ) → i < n → entry_at e (names e bs from i) bs at ≡ r → entries_at e bs from i at (n - i) ≡ and_then r (λ _ q. entries_at e bs from (i + 1) q (n - (i + 1)))
  unfolding entries_at entry_at left
  entries_by r h k =
      ap (entries_at e bs from i at) (left_more n i h)
      ∙ from_name (name_at e bs at)
      ∙ ap left k
    where
      from_name : (x : Read (List ℕ)) → and_then x (λ name q. cond (differ e && among name (names e bs from i)) (broken at) (and_then (rest_at e bs q) (λ _ r. entries_at e bs from (i + 1) r (n - (i + 1)))))
          ≡ left (and_then x (λ name q. cond (differ e && among name (names e bs from i)) (broken at) (rest_at e bs q)))
      from_name (got name q) = from_bar (differ e && among name (names e bs from i))
        where
          from_bar : (b : Bool) → cond b (broken at) (left (rest_at e bs q)) ≡ left (cond b (broken at) (rest_at e bs q))
          from_bar true = refl
          from_bar false = refl
      from_name (broken p) = refl
