-- Where the first dot of a text stands.
use Rattle.std.proofs.Common.{◌≡◌, ℕ, suc, ◌+◌, ◌≤◌, Bool, true, false, cond, List, [], ◌∷◌, length, Some, None, eqb, ltb, refl, sym, ap, ◌∙◌, arith}
use Rattle.std.specs.Option.{unwrap_or}
use Rattle.std.specs.List.{position_or_len}
use Rattle.std.proofs.lemmas.Bool.{ltb-false}
use Rattle.std.proofs.lemmas.List.Recursion.{is_position_or_len}
use Rattle.fields.specs.Column.{dot}

behind : (b : Bool) (k n : ℕ) → k ≤ n → cond b 0 (k + 1) ≤ suc n
behind true k n h = omega arith
behind false k n h = omega (arith, h)

dot-le-length : (bs : List ℕ) → dot bs ≤ length bs
dot-le-length [] = omega arith
dot-le-length (c ∷ cs) = behind (eqb c 46) (dot cs) (length cs) (dot-le-length cs)

dot_is : (bs : List ℕ) → dot bs ≡ position_or_len (λ c. eqb c 46) bs
dot_is bs = is_position_or_len dot (λ c. eqb c 46) refl (λ c cs. ap (cond (eqb c 46) 0) (omega arith)) bs

-- the position that a search gives, or the length where it gives none
pub dot_found : (bs : List ℕ) → unwrap_or (cond (ltb (position_or_len (λ c. eqb c 46) bs) (length bs)) (Some (position_or_len (λ c. eqb c 46) bs)) None) (length bs) ≡ dot bs
dot_found bs = ap (λ n. unwrap_or (cond (ltb n (length bs)) (Some n) None) (length bs)) (sym (dot_is bs)) ∙ there (ltb (dot bs) (length bs)) (λ e. omega (arith, ltb-false (dot bs) (length bs) e, dot-le-length bs))
  where
    there : (b : Bool) → (b ≡ false → length bs ≡ dot bs) → unwrap_or (cond b (Some (dot bs)) None) (length bs) ≡ dot bs
    there true h = refl
    there false h = h refl
