-- The rows of one table after a write in its region.
use Rattle.std.proofs.Common.{◌≡◌, ℕ, ◌+◌, ◌-◌, ◌<◌, ◌≤◌, ◌≢◌, List, [], ◌∷◌, ◌++◌, length, get_or, set, sym, ap, ◌∙◌, ⊎_elim, arith}
use Rattle.std.specs.List.{remove as without}
use Rattle.std.proofs.lemmas.List.{ext_get_or}
use Rattle.std.proofs.lemmas.List.Edits.{length-remove, get_or-remove_below, get_or-remove_above}
use Rattle.std.proofs.lemmas.List.FromFn.{map-range_with_len_more}
use Rattle.std.proofs.lemmas.Bool.{cases_lt}
use Rattle.rowmodel.proofs.Tables.{map_counting_same, map_counting_set}
use Rattle.bytestore.specs.Memory.{row_in, Alike}
use Rattle.bytestore.specs.Region.{rows_from}
use Rattle.bytestore.proofs.Bytes.{row_in_alike}
use Rattle.bytestore.proofs.Regions.{length-rows, get_or_rows}

module _ (bs cs : List ℕ) (b n : ℕ) (small : (k : ℕ) → k < n → length (row_in bs (b + k)) ≤ 240) where
  module _ (p : ℕ) (row : List ℕ) (wrote : row_in cs p ≡ row) (others : (q : ℕ) → q ≢ p → Alike cs q bs q) where
    -- one more row, after the last
    pub rows_appended : p ≡ b + n → rows_from cs b (n + 1) ≡ rows_from bs b n ++ (row ∷ [])
    rows_appended e =
        map-range_with_len_more (λ k. row_in cs (b + k)) 0 n n (omega arith)
        ∙ ap (λ xs. xs ++ (row_in cs (b + n) ∷ [])) (map_counting_same (λ k. row_in cs (b + k)) (λ k. row_in bs (b + k)) n (λ k l. row_in_alike bs cs (b + k) (b + k) (small k l) (others (b + k) (λ z. omega arith))))
        ∙ ap (λ x. rows_from bs b n ++ (x ∷ [])) (ap (row_in cs) (sym e) ∙ wrote)

    -- another row at a place
    pub rows_replaced : (k : ℕ) → k < n → p ≡ b + k → rows_from cs b n ≡ set (rows_from bs b n) k row
    rows_replaced k lk e =
        map_counting_set (λ j. row_in bs (b + j)) (λ j. row_in cs (b + j)) n k row lk (ap (row_in cs) (sym e) ∙ wrote)
        (λ j l ne. row_in_alike bs cs (b + j) (b + j) (small j l) (others (b + j) (λ z. ne (omega arith))))

  -- the rows past a place, one place lower
  pub rows_removed : (k p : ℕ) → k < n → p ≡ b + k → ((q : ℕ) → q < p → Alike cs q bs q) → ((j : ℕ) → j < n - 1 - k → Alike cs (p + j) bs (p + 1 + j)) →
      rows_from cs b (n - 1) ≡ without (rows_from bs b n) k
  rows_removed k p lk e below moved =
      ext_get_or [] (rows_from cs b (n - 1)) (without (rows_from bs b n) k)
      (omega (arith, length-rows cs b (n - 1), length-rows bs b n, length-remove (rows_from bs b n) k inside))
      (λ j l. here j (omega (arith, length-rows cs b (n - 1))))
    where
      inside : k < length (rows_from bs b n)
      inside = omega (arith, length-rows bs b n)

      alike : (j : ℕ) → k ≤ j → j < n - 1 → Alike cs (b + j) bs (b + (j + 1))
      alike j u l i li = ap (λ p. get_or cs p 0) (omega arith) ∙ moved (j - k) (omega arith) i li ∙ ap (λ p. get_or bs p 0) (omega arith)

      here : (j : ℕ) → j < n - 1 → get_or (rows_from cs b (n - 1)) j [] ≡ get_or (without (rows_from bs b n) k) j []
      here j l =
          get_or_rows cs b (n - 1) j l ∙ ⊎_elim
          (λ u. row_in_alike bs cs (b + j) (b + j) (small j (omega arith)) (below (b + j) (omega arith)) ∙ sym (get_or-remove_below (rows_from bs b n) k [] j u inside ∙ get_or_rows bs b n j (omega arith)))
          (λ u. row_in_alike bs cs (b + (j + 1)) (b + j) (small (j + 1) (omega arith)) (alike j u l)
          ∙ sym (get_or-remove_above (rows_from bs b n) k [] j u inside ∙ get_or_rows bs b n (j + 1) (omega arith)))
          (cases_lt j k)
