-- What the first needs of a call say of all of them.
use Rattle.std.proofs.Common.{◌≡◌, ℕ, Bool, true, false, cond, List, [], ◌∷◌, ◌++◌, Some, None, refl, ap, ◌∙◌, arith}
use Rattle.rowmodel.specs.declared.StoreFault.{StoreFault}
use Rattle.rowmodel.specs.Needs.{Need, unmet}
use Rattle.rowmodel.proofs.Refusals.{both_met}

-- one of the first is unmet: so is it among all
pub front_unmet : (xs ys : List Need) (f : StoreFault) → unmet xs ≡ Some f → unmet (xs ++ ys) ≡ Some f
front_unmet [] ys f e = let z : ◌≡◌ {A = ℕ} 0 1 = cc in absurd (omega arith)
front_unmet (x ∷ xs) ys f e = at x.met (λ h. front_unmet xs ys f h) e
  where
    at : (b : Bool) → (unmet xs ≡ Some f → unmet (xs ++ ys) ≡ Some f) → cond b (unmet xs) (Some x.fault) ≡ Some f → cond b (unmet (xs ++ ys)) (Some x.fault) ≡ Some f
    at true more h = more h
    at false more h = h

-- the first are met: the others are left
pub front_met : (xs ys : List Need) → unmet xs ≡ None → unmet (xs ++ ys) ≡ unmet ys
front_met [] ys e = refl
front_met (x ∷ xs) ys e =
    let both = both_met x.met x.fault (unmet xs) e in
    ap (λ b. cond b (unmet (xs ++ ys)) (Some x.fault)) both.0 ∙ front_met xs ys both.1
