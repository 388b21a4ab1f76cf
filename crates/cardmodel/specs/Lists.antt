-- Words on lists.
use Rattle.std.specs.Prelude.{ℕ, zero, suc, Bool, true, false, cond, ◌&&◌, ◌||◌, List, [], ◌∷◌, Some, None, Option}
use Rattle.std.specs.Option.{option_map}

module _ {A : Type 0} where
  abbrev pub any : (A → Bool) → List A → Bool
  any p [] = false
  any p (x ∷ xs) = p x || any p xs

  abbrev pub all : (A → Bool) → List A → Bool
  all p [] = true
  all p (x ∷ xs) = p x && all p xs

  -- the first that passes
  abbrev pub first : (A → Bool) → List A → Option A
  first p [] = None
  first p (x ∷ xs) = cond (p x) (Some x) (first p xs)

  -- what there is, in order
  abbrev pub somes : List (Option A) → List A
  somes [] = []
  somes (None ∷ xs) = somes xs
  somes (Some x ∷ xs) = x ∷ somes xs

  -- the first place from k on whose element passes
  abbrev pub next_place : (A → Bool) → List A → ℕ → Option ℕ
  next_place p [] k = None
  next_place p (x ∷ xs) zero = cond (p x) (Some 0) (option_map suc (next_place p xs 0))
  next_place p (x ∷ xs) (suc k) = option_map suc (next_place p xs k)
