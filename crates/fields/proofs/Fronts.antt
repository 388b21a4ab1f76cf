-- Parts of a list whose bounds may lie past its end.
use Rattle.std.proofs.Common.{◌≡◌, ℕ, ◌-◌, min, List, [], length, take, drop, sym, ap, ◌∙◌, ⊎_elim, arith}
use Rattle.std.proofs.lemmas.List.{take_rest, take_all, drop_all, length-drop}
use Rattle.std.proofs.lemmas.Bool.{cases_lt}

none : (n : ℕ) (xs : List ℕ) → n ≡ 0 → take n xs ≡ []
none n xs e = ap (λ k. take k xs) e

-- the part between two positions, each taken for the end where it is past it
pub part_min : (bs : List ℕ) (from at start end : ℕ) → end ≡ min at (length bs) → start ≡ min from end → take (end - start) (drop start bs) ≡ take (at - from) (drop from bs)
part_min bs from at start end e s =
    ⊎_elim
    (λ l. ap (λ k. take (end - k) (drop k bs)) (omega (arith, e, s)) ∙ ⊎_elim
    (λ m. ap (λ k. take (k - from) (drop from bs)) (omega (arith, e)))
    (λ m. ap (λ k. take (k - from) (drop from bs)) (omega (arith, e)) ∙ take_rest bs from ∙ sym (take_all (at - from) (drop from bs) (omega (arith, length-drop from bs))))
    (cases_lt at (length bs)))
    (λ l. none (end - start) (drop start bs) (omega (arith, s)) ∙ sym (⊎_elim
    (λ m. ap (take (at - from)) (drop_all from bs (omega (arith, e))) ∙ take_all (at - from) [] (omega arith))
    (λ m. none (at - from) (drop from bs) (omega arith))
    (cases_lt from at)))
    (cases_lt from end)
