-- Names: the same name is equal bytes.
use Rattle.std.proofs.Common.{◌≡◌, Bool, true, false, eqb, [], ◌∷◌, sym, refl, subst}
use Rattle.std.specs.Str.{bytes_eq}
use Rattle.std.proofs.lemmas.Bool.{eqb-true, eq-eqb, both_ways, and_parts}
use Rattle.cardmodel.specs.State.{Bytes}
use Rattle.cardmodel.specs.Objects.{same}

pub same_true : (a b : Bytes) → same a b ≡ true → a ≡ b
unfolding same
same_true [] [] e = refl
same_true [] (y ∷ b) e = cc
same_true (x ∷ a) [] e = cc
same_true (x ∷ a) (y ∷ b) e =
    let p = and_parts (eqb x y) (bytes_eq a b) e in
    let h : x ≡ y = eqb-true x y p.0 in
    let t : a ≡ b = same_true a b p.1 in cc

pub same_refl : (a : Bytes) → same a a ≡ true
unfolding same
same_refl [] = refl
same_refl (x ∷ a) = rw (eq-eqb x x refl, same_refl a)

pub same_since : (a b : Bytes) → a ≡ b → same a b ≡ true
same_since a b e = subst (λ x. same a x ≡ true) e (same_refl a)

pub differ_back : (a b : Bytes) → same a b ≡ false → same b a ≡ false
differ_back a b e = go (same b a) refl
  where
    go : (z : Bool) → same b a ≡ z → same b a ≡ false
    go false p = p
    go true p = absurd (both_ways (same a b) e (same_since a b (sym (same_true b a p))))
