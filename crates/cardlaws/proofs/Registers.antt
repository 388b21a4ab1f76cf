-- Registers keep their size, and lists of which no two are alike stay so, whatever is added, changed or taken out.
use Rattle.std.proofs.Common.{◌≡◌, ℕ, ◌+◌, Bool, true, false, cond, not, List, [], ◌∷◌, refl, ap, ◌∙◌, arith}
use Rattle.std.proofs.lemmas.Bool.{ltb-true}
use Rattle.std.proofs.lemmas.List.{length_push}
use Rattle.std.proofs.lemmas.List.Filters.{length-filter_both}
use Rattle.cardmodel.specs.State.{Register}
use Rattle.cardmodel.specs.Registers.{has_space, with_one, without_some, changed_first, with_changed}
use Rattle.cardmodel.proofs.Lists.{none-In, any_none}
use Rattle.cardmodel.proofs.Changed.{changed_length, any_changed}
use Rattle.cardlaws.specs.Sound.{Apart, Sized}

module _ {A : Type 0} where
  pub sized_one : (r : Register A) (x : A) (n : ℕ) → has_space r ≡ true → Sized r n → Sized (with_one r x) n
  sized_one r x n h s = let l = ltb-true 0 r.space h in let p = length_push r.records x in omega arith

  pub sized_some : (r : Register A) (gone : A → Bool) (n : ℕ) → Sized r n → Sized (without_some r gone) n
  sized_some r gone n s = let p = length-filter_both gone (λ x. not (gone x)) (λ x. refl) r.records in omega arith

  pub sized_changed : (r : Register A) (p : A → Bool) (f : A → A) (n : ℕ) → Sized r n → Sized (with_changed r p f) n
  sized_changed r p f n s = ap (λ l. r.space + l) (changed_length p f r.records) ∙ s

  pub apart_changed : (alike : A → A → Bool) (p : A → Bool) (f : A → A) (xs : List A) →
      ((x y : A) → alike (f x) y ≡ alike x y) → ((x y : A) → alike y (f x) ≡ alike y x) → Apart alike xs → Apart alike (changed_first p f xs)
  apart_changed alike p f [] l r a = tt
  apart_changed alike p f (x ∷ xs) l r a = elim (p x) as (λ b. Apart alike (cond b (f x ∷ xs) (x ∷ changed_first p f xs)))
      [ true ↦ (any_none (alike (f x)) xs (λ y i. l x y ∙ none-In (alike x) i a.0), a.1) | false ↦ (any_changed (alike x) p f xs (λ y h. r y x) ∙ a.0, apart_changed alike p f xs l r a.1) ]
