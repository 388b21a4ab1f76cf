-- Lists of which no two are alike, with one removed and with one replaced, where to be alike goes both ways.
use Rattle.std.proofs.Common.{◌≡◌, ℕ, zero, suc, ◌<◌, Bool, false, List, [], ◌∷◌, length, get_or, set, sym, refl, ap, ◌∙◌, subst, ⊎_elim, arith}
use Rattle.std.specs.List.{remove}
use Rattle.cardmodel.proofs.Lists.{In, here, there, none-In, any_none, nth-In, nth_below, In-set, In-removed}
use Rattle.cardlaws.specs.Sound.{Apart}

module _ {A : Type 0} (alike : A → A → Bool) where
  pub apart_removed : (xs : List A) (i : ℕ) → Apart alike xs → Apart alike (remove xs i)
  apart_removed [] zero a = tt
  apart_removed [] (suc i) a = tt
  apart_removed (x ∷ xs) zero a = a.1
  apart_removed (x ∷ xs) (suc i) a =
      (any_none (alike x) (remove xs i) (λ y m. none-In (alike x) (In-removed xs i m) a.0), apart_removed xs i a.1)

  module _ (back : (x y : A) → alike y x ≡ alike x y) where
    -- an element is like none of the others
    pub apart_others : (xs : List A) (i : ℕ) (d : A) → i < length xs → Apart alike xs → {x : A} → In x (remove xs i) → alike x (get_or xs i d) ≡ false
    apart_others [] i d l a m = absurd (omega arith)
    apart_others (y ∷ xs) zero d l a {x} m = back y x ∙ none-In (alike y) m a.0
    apart_others (y ∷ xs) (suc i) d l a here = none-In (alike y) (nth-In xs i (get_or xs i d) (nth_below xs i d (omega arith))) a.0
    apart_others (y ∷ xs) (suc i) d l a (there m) = apart_others xs i d (omega arith) a.1 m

    -- one is replaced by what is like none of the others
    pub apart_set : (xs : List A) (i : ℕ) (y : A) → Apart alike xs → ((x : A) → In x (remove xs i) → alike x y ≡ false) → Apart alike (set xs i y)
    apart_set [] i y a h = tt
    apart_set (x ∷ xs) zero y a h = (any_none (alike y) xs (λ z m. back z y ∙ h z m), a.1)
    apart_set (x ∷ xs) (suc i) y a h = (
      any_none (alike x) (set xs i y) (λ z m. ⊎_elim (λ j. none-In (alike x) j a.0) (λ e. subst (λ w. alike x w ≡ false) (sym e) (h x here)) (In-set xs i y m)),
      apart_set xs i y a.1 (λ z m. h z (there m)),
    )

    -- elements at different places
    pub apart_places : (xs : List A) (i j : ℕ) (d : A) → Apart alike xs → i < length xs → j < length xs → (i ≡ j → ⊥) → alike (get_or xs i d) (get_or xs j d) ≡ false
    apart_places [] i j d a l m n = absurd (omega arith)
    apart_places (x ∷ xs) zero zero d a l m n = absurd (n refl)
    apart_places (x ∷ xs) zero (suc j) d a l m n = none-In (alike x) (nth-In xs j (get_or xs j d) (nth_below xs j d (omega arith))) a.0
    apart_places (x ∷ xs) (suc i) zero d a l m n = back x (get_or xs i d) ∙ none-In (alike x) (nth-In xs i (get_or xs i d) (nth_below xs i d (omega arith))) a.0
    apart_places (x ∷ xs) (suc i) (suc j) d a l m n = apart_places xs i j d a.1 (omega arith) (omega arith) (λ e. n (ap suc e))
