-- Lists of which no two are alike.
use Rattle.std.proofs.Common.{◌≡◌, Bool, true, false, cond, List, [], ◌∷◌, ◌++◌, filter, sym, refl, ◌∙◌}
use Rattle.std.proofs.lemmas.Bool.{both_ways, or_from}
use Rattle.cardmodel.specs.Lists.{any}
use Rattle.cardmodel.specs.State.{Object}
use Rattle.cardmodel.proofs.Lists.{In, here, there, any-In, any-++, any_fewer}
use Rattle.cardmodel.proofs.Names.{same_since}
use Rattle.cardlaws.specs.Sound.{Apart, one_name}

module _ {A : Type 0} (alike : A → A → Bool) where
  pub apart_kept : (q : A → Bool) (xs : List A) → Apart alike xs → Apart alike (filter q xs)
  apart_kept q [] a = tt
  apart_kept q (x ∷ xs) a = elim (q x) as (λ b. Apart alike (cond b (x ∷ filter q xs) (filter q xs)))
      [ true ↦ (any_fewer (alike x) q xs a.0, apart_kept q xs a.1) | false ↦ apart_kept q xs a.1 ]

  pub apart_add : (xs : List A) (y : A) → Apart alike xs → ((x : A) → In x xs → alike x y ≡ false) → Apart alike (xs ++ (y ∷ []))
  apart_add [] y a h = (refl, tt)
  apart_add (x ∷ xs) y a h =
      (any-++ (alike x) xs (y ∷ []) ∙ or_from _ _ a.0 (or_from (alike x y) false (h x here) refl), apart_add xs y a.1 (λ z i. h z (there i)))

-- one name, one object
apart_head : (o p : Object) (os : List Object) → any (one_name o) os ≡ false → In p os → o.name ≡ p.name → ⊥
apart_head o p os a i e = both_ways (any (one_name o) os) a (any-In (one_name o) i (same_since p.name o.name (sym e)))

pub apart_eq : (os : List Object) → Apart one_name os → (o p : Object) → In o os → In p os → o.name ≡ p.name → o ≡ p
apart_eq [] a o p i j e = elim i [ ]
apart_eq (y ∷ os) a o p here here e = refl
apart_eq (y ∷ os) a o p here (there j) e = absurd (apart_head o p os a.0 j e)
apart_eq (y ∷ os) a o p (there i) here e = absurd (apart_head p o os a.0 i (sym e))
apart_eq (y ∷ os) a o p (there i) (there j) e = apart_eq os a.1 o p i j e
