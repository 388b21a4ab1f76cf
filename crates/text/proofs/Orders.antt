-- The order of strings is the library's order of slices, and lawful.
use Rattle.std.proofs.Common.{◌≡◌, ℕ, cond, ltb, List, [], ◌∷◌, sym, refl, ap, subst, ◌∙◌, arith}
use Rattle.std.proofs.lemmas.Bool.Decides.{nat_tests}
use Rattle.std.proofs.lemmas.Cmp.{tied_itself, nat_list_cmp_total}
use Rattle.std.specs.Cmp.{IsTotalOrder}
use Rattle.std.specs.Cmp.Lexicographic.{slice_cmp}
use Rattle.std.specs.Ordering.{nat_cmp, ordering_reverse, ordering_then}
use Rattle.std.specs.declared.cmp.Ordering.{Ordering}
use Rattle.std.specs.declared.cmp.Ordering.TheVariants.{Less, Greater}
use Rattle.text.specs.Order.{order, Lawful}

-- by the first bytes
first_byte : (x y : ℕ) (o : Ordering) → ordering_then (nat_cmp x y) o ≡ cond (ltb x y) Less (cond (ltb y x) Greater o)
first_byte x y o = grind (arith, nat_tests)

pub slices_order : (xs ys : List ℕ) → slice_cmp nat_cmp xs ys ≡ order xs ys
slices_order [] [] = refl
slices_order [] (y ∷ ys) = refl
slices_order (x ∷ xs) [] = refl
slices_order (x ∷ xs) (y ∷ ys) = ap (ordering_then (nat_cmp x y)) (slices_order xs ys) ∙ first_byte x y (order xs ys)

-- a total order is lawful
total_lawful : {X : Type 0} {o : X → X → Ordering} → IsTotalOrder o → Lawful o
total_lawful {o = o} t = record {
  itself = tied_itself t;
  back = λ x y. t.antisymm y x;
  level_on = λ x y z h k. t.congr x y z h ∙ k;
  lower_on = t.trans;
  lower_level = λ x y z h k. t.antisymm x z ∙ ap ordering_reverse (t.congr z y x (t.antisymm z y ∙ ap ordering_reverse k)) ∙ sym (t.antisymm x y) ∙ h;
  level_lower = λ x y z h k. t.congr x y z h ∙ k;
}

pub order_lawful : Lawful order
order_lawful = subst Lawful (λ i xs ys. slices_order xs ys i) (total_lawful nat_list_cmp_total)
