-- Lists of which the first that passes is changed.
use Rattle.std.proofs.Common.{◌≡◌, suc, Bool, true, false, cond, ◌||◌, List, [], ◌∷◌, length, Some, refl, ap}
use Rattle.std.specs.List.{AllByRecursion}
use Rattle.cardmodel.specs.Lists.{any, first}
use Rattle.cardmodel.specs.Registers.{changed_first}

module _ {A : Type 0} where
  -- a list with the first that passes changed
  pub changed_length : (p : A → Bool) (f : A → A) (xs : List A) → length (changed_first p f xs) ≡ length xs
  changed_length p f [] = refl
  changed_length p f (x ∷ xs) = elim (p x) as (λ b. length (cond b (f x ∷ xs) (x ∷ changed_first p f xs)) ≡ length (x ∷ xs))
      [ true ↦ refl | false ↦ ap suc (changed_length p f xs) ]

  pub any_changed : (t p : A → Bool) (f : A → A) (xs : List A) → ((x : A) → p x ≡ true → t (f x) ≡ t x) → any t (changed_first p f xs) ≡ any t xs
  any_changed t p f [] h = refl
  any_changed t p f (x ∷ xs) h = go (p x) refl (any_changed t p f xs h)
    where
      go : (b : Bool) → p x ≡ b → any t (changed_first p f xs) ≡ any t xs → any t (cond b (f x ∷ xs) (x ∷ changed_first p f xs)) ≡ (t x || any t xs)
      go true e ih = rw (h x e)
      go false e ih = rw ih

  -- what holds of all, and of the changed one, holds of all of the changed list
  pub all_changed : (P : A → Type 0) (p : A → Bool) (f : A → A) (xs : List A) → AllByRecursion P xs → ((x : A) → P x → p x ≡ true → first p xs ≡ Some x → P (f x)) → AllByRecursion P (changed_first p f xs)
  all_changed P p f [] a h = tt
  all_changed P p f (x ∷ xs) a h = go (p x) refl (all_changed P p f xs a.1) h
    where
      go : (b : Bool) → p x ≡ b → (((y : A) → P y → p y ≡ true → first p xs ≡ Some y → P (f y)) → AllByRecursion P (changed_first p f xs)) →
          ((y : A) → P y → p y ≡ true → cond b (Some x) (first p xs) ≡ Some y → P (f y)) → AllByRecursion P (cond b (f x ∷ xs) (x ∷ changed_first p f xs))
      go true e ih h = (h x a.0 e refl, a.1)
      go false e ih h = (a.0, ih h)
