-- The next place that passes is the first one.
use Rattle.std.proofs.Common.{◌≡◌, ℕ, zero, suc, ◌<◌, ◌≤◌, Bool, true, false, cond, List, [], ◌∷◌, length, get_or, Some, None, Option, refl, arith}
use Rattle.std.specs.Option.{option_map}
use Rattle.cardmodel.specs.Lists.{next_place}
use Rattle.cardmodel.specs.State.{Row}
use Rattle.cardmodel.specs.Objects.{rows_behind}
use Rattle.cardmodel.specs.CursorRules.{selected, next_selected}
use Rattle.cardmodel.specs.Next.{FirstFrom, NextFirst}

module _ (p : Row → Bool) (x : Row) (xs : List Row) where
  -- one place further, behind a row that is not looked at
  skipped : (k : ℕ) (o : Option ℕ) → FirstFrom p xs k o → FirstFrom p (x ∷ xs) (suc k) (option_map suc o)
  skipped k None h = none
    where
      none : (j : ℕ) → suc k ≤ j → j < length (x ∷ xs) → p (get_or (x ∷ xs) j []) ≡ false
      none zero l m = absurd (omega arith)
      none (suc j) l m = h j (omega arith) (omega arith)
  skipped k (Some i) h = (omega (arith, h.0), omega (arith, h.1), h.2, before)
    where
      before : (j : ℕ) → suc k ≤ j → j < suc i → p (get_or (x ∷ xs) j []) ≡ false
      before zero l m = absurd (omega arith)
      before (suc j) l m = h.3 j (omega arith) (omega arith)

  -- from the first place on, behind a row that does not pass
  passed_over : p x ≡ false → (o : Option ℕ) → FirstFrom p xs 0 o → FirstFrom p (x ∷ xs) 0 (option_map suc o)
  passed_over e None h = none
    where
      none : (j : ℕ) → 0 ≤ j → j < length (x ∷ xs) → p (get_or (x ∷ xs) j []) ≡ false
      none zero l m = e
      none (suc j) l m = h j (omega arith) (omega arith)
  passed_over e (Some i) h = (omega arith, omega (arith, h.1), h.2, before)
    where
      before : (j : ℕ) → 0 ≤ j → j < suc i → p (get_or (x ∷ xs) j []) ≡ false
      before zero l m = e
      before (suc j) l m = h.3 j (omega arith) (omega arith)

  first_or : (b : Bool) → p x ≡ b → (o : Option ℕ) → FirstFrom p xs 0 o → FirstFrom p (x ∷ xs) 0 (cond b (Some 0) (option_map suc o))
  first_or true e o h = (omega arith, omega arith, e, λ j l m. absurd (omega arith))
  first_or false e o h = passed_over e o h

next_is_first : (p : Row → Bool) (xs : List Row) (k : ℕ) → FirstFrom p xs k (next_place p xs k)
next_is_first p [] k = λ j l m. absurd (omega arith)
next_is_first p (x ∷ xs) zero = first_or p x xs (p x) refl (next_place p xs 0) (next_is_first p xs 0)
next_is_first p (x ∷ xs) (suc k) = skipped p x xs k (next_place p xs k) (next_is_first p xs k)

pub next_first : NextFirst
unfolding next_selected
next_first w s rows from = next_is_first (selected w s.tests) (rows_behind rows w) from
