-- The row at a place, as bytes.
use Rattle.std.proofs.Common.{◌≡◌, ℕ, ◌+◌, ◌*◌, ◌<◌, ◌≤◌, List, map, length, get_or, take, drop, ap, ◌∙◌, arith}
use Rattle.std.specs.List.{range_with_len}
use Rattle.std.proofs.lemmas.List.{length-take-le, length-drop, get_or-take, get_or-drop}
use Rattle.std.proofs.lemmas.List.FromFn.{length-map-range_with_len, fill_by_all}
use Rattle.rowmodel.proofs.Tables.{map_counting_same}
use Rattle.bytestore.specs.Memory.{row_in, Alike}

-- its length is its first byte
pub length-row_in : (bs : List ℕ) (p : ℕ) → length (row_in bs p) ≡ get_or bs (241 * p) 0
length-row_in bs p = length-map-range_with_len (λ k. get_or bs (241 * p + 1 + k) 0) 0 (get_or bs (241 * p) 0)

-- it is the part of the bytes after that one
pub row_in_part : (bs : List ℕ) (p n : ℕ) → n ≡ get_or bs (241 * p) 0 → 241 * p + 1 + n ≤ length bs → take n (drop (241 * p + 1) bs) ≡ row_in bs p
row_in_part bs p n e l =
    fill_by_all (λ k. get_or bs (241 * p + 1 + k) 0) (take n (drop (241 * p + 1) bs)) n 0
    (length-take-le n (drop (241 * p + 1) bs) (simp length-drop (omega arith)))
    (λ k lk. get_or-take n (drop (241 * p + 1) bs) k 0 lk ∙ get_or-drop (241 * p + 1) bs k 0)
    ∙ ap (λ m. map (λ k. get_or bs (241 * p + 1 + k) 0) (range_with_len 0 m)) e

-- alike places have the same row, if it is no longer than a place
pub row_in_alike : (bs cs : List ℕ) (p q : ℕ) → length (row_in bs p) ≤ 240 → Alike cs q bs p → row_in cs q ≡ row_in bs p
row_in_alike bs cs p q small alike =
    ap (λ n. map (λ k. get_or cs (241 * q + 1 + k) 0) (range_with_len 0 n)) first
    ∙ map_counting_same (λ k. get_or cs (241 * q + 1 + k) 0) (λ k. get_or bs (241 * p + 1 + k) 0) (get_or bs (241 * p) 0) rest
  where
    first : get_or cs (241 * q) 0 ≡ get_or bs (241 * p) 0
    first = ap (λ j. get_or cs j 0) (omega arith) ∙ alike 0 (omega arith) ∙ ap (λ j. get_or bs j 0) (omega arith)

    rest : (k : ℕ) → k < get_or bs (241 * p) 0 → get_or cs (241 * q + 1 + k) 0 ≡ get_or bs (241 * p + 1 + k) 0
    rest k l =
        ap (λ j. get_or cs j 0) (omega arith)
        ∙ alike (1 + k) (omega (arith, length-row_in bs p))
        ∙ ap (λ j. get_or bs j 0) (omega arith)
