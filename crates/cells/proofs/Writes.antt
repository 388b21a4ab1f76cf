-- What is measured and written of a new row, cell by cell.
use Rattle.std.proofs.Common.{◌≡◌, ℕ, suc, ◌+◌, ◌<◌, ◌≤◌, List, [], ◌∷◌, ◌++◌, length, get_or, take, drop, set, min, ◌*◌, Some, sym, refl, ap, ◌∙◌, append_assoc, append-nil, arith}
use borrow.Rule.Slice.PartMut.{put_mid}
use Rattle.std.proofs.lemmas.List.{at_drop_more, at_drop_all, length-append, length-set, take_more_set, drop-set-lt, drop-drop, take-append-drop}
use Rattle.std.proofs.lemmas.Slice.{take-put_mid, drop-put_mid}
use Rattle.std.proofs.lemmas.Grind.{common_steps}
use Rattle.std.proofs.lemmas.Bool.Decides.{nat_tests}
use Rattle.std.proofs.lemmas.List.Sums.{sum_by-cons}
use Rattle.std.specs.List.{enumerate_from, sum_by}
use Rattle.cells.specs.declared.source.Source.{Source}
use Rattle.cells.specs.Form.{encoded, encoded_cell, encoded_cells}
use Rattle.cells.specs.Source.{supplied, cells_on, new_cells}
use Rattle.cells.specs.Write.{measured}

-- the bytes of the cells from a column on
abbrev pub bytes_on : List ℕ → List ℕ → List Source → ℕ → List ℕ
bytes_on command old sources k = encoded_cells (cells_on command old k (drop k sources))

module _ (command old : List ℕ) (sources : List Source) (k : ℕ) where
  pub bytes_more : (d : Source) (c : List ℕ) → k < length sources → c ≡ supplied command old k (get_or sources k d) → bytes_on command old sources k ≡ encoded_cell c ++ bytes_on command old sources (k + 1)
  bytes_more d c l is = at_drop_more (λ ss. encoded_cells (cells_on command old k ss)) sources k d l ∙ ap (λ x. encoded_cell x ++ bytes_on command old sources (k + 1)) (sym is)

  pub length_more : (d : Source) (c : List ℕ) → k < length sources → c ≡ supplied command old k (get_or sources k d) → length (bytes_on command old sources k) ≡ 1 + length c + length (bytes_on command old sources (k + 1))
  length_more d c l is = ap length (bytes_more d c l is) ∙ (let a = length-append c (bytes_on command old sources (k + 1)) in omega arith)

  pub bytes_end : length sources ≤ k → bytes_on command old sources k ≡ []
  bytes_end h = at_drop_all (λ ss. encoded_cells (cells_on command old k ss)) sources k h

-- as many cells as sources
length-on : (command old : List ℕ) (sources : List Source) (k : ℕ) → length (cells_on command old k sources) ≡ length sources
length-on command old [] k = refl
length-on command old (s ∷ ss) k = ap suc (length-on command old ss (k + 1))

-- the length of a cell with its length byte, by column and source
abbrev pub cell_length : List ℕ → List ℕ → ℕ × Source → ℕ
cell_length command old p = 1 + length (supplied command old p.0 p.1)

-- those lengths together are that of the form's cells
pub lengths_on : (command old : List ℕ) (k : ℕ) (ss : List Source) → sum_by (cell_length command old) (enumerate_from k ss) ≡ length (encoded_cells (cells_on command old k ss))
lengths_on command old k [] = refl
lengths_on command old k (s ∷ ss) =
    let first = sum_by-cons (cell_length command old) (k, s) (enumerate_from (k + 1) ss) in
    let others = lengths_on command old (k + 1) ss in
    let both = length-append (supplied command old k s) (encoded_cells (cells_on command old (k + 1) ss)) in
    omega arith

-- with the count byte they are what is measured
pub measured_sum : (command old : List ℕ) (sources : List Source) (n : ℕ) → length sources ≤ 255 → n ≡ sum_by (cell_length command old) (enumerate_from 0 sources) → Some (1 + n) ≡ measured command old sources
measured_sum command old sources n few is = let all = lengths_on command old 0 sources in grind (arith, nat_tests)

-- a sum of numbers that are cut at a top
pub sum_under : {X : Type 0} (f : X → ℕ) (top : ℕ) (xs : List X) → sum_by (λ x. min (f x) top) xs ≤ top * length xs
sum_under f top [] = omega arith
sum_under f top (x ∷ xs) =
    let first = sum_by-cons (λ y. min (f y) top) x xs in
    let others = sum_under f top xs in
    omega arith

module _ (command old : List ℕ) (sources : List Source) (n : ℕ) (e : measured command old sources ≡ Some n) where
  -- a length that was measured is that of the form
  pub measured_is : n ≡ length (encoded (new_cells command old sources))
  measured_is = grind (arith, nat_tests)

-- an area to which a cell was written
module _ (area : List ℕ) (place k : ℕ) (cell now : List ℕ) (fits : place + 1 + length cell ≤ length area) (is : now ≡ cell) where
  long : length now ≡ length cell
  long = ap length is

  same : length (set area place (length cell)) ≡ length area
  same = length-set area place (length cell)

  pub cell_written : take (place + 1 + length cell) (put_mid (place + 1) k (set area place (length cell)) now) ≡ take place area ++ encoded_cell cell
  cell_written =
      take-put_mid (place + 1) k (set area place (length cell)) now (place + 1 + length cell) (omega (arith, long)) (omega (arith, same))
      ∙ ap (λ l. l ++ now) (take_more_set area place (length cell) (omega arith)) ∙ append_assoc (take place area) (length cell ∷ []) now ∙ ap (λ l. take place area ++ length cell ∷ l) is

  pub cell_kept : k ≡ length cell → drop (place + 1 + length cell) (put_mid (place + 1) k (set area place (length cell)) now) ≡ drop (place + 1 + length cell) area
  cell_kept e =
      drop-put_mid (place + 1) k (set area place (length cell)) now (place + 1 + length cell) (omega arith) (omega (arith, same)) (omega (arith, long))
      ∙ drop-set-lt (place + 1 + length cell) area place (length cell) (omega arith)

-- the count byte is written
pub row_begun : (command old : List ℕ) (sources : List Source) (area : List ℕ) → 0 < length area → take 1 (set area 0 (length sources)) ++ bytes_on command old sources 0 ≡ encoded (new_cells command old sources)
row_begun command old sources area h =
    ap (λ l. l ++ bytes_on command old sources 0) (take_more_set area 0 (length sources) h) ∙ ap (λ n. n ∷ bytes_on command old sources 0) (sym (length-on command old sources 0))

-- one more cell is written
pub row_more : (front cell next rest whole now : List ℕ) → front ++ next ≡ whole → next ≡ encoded_cell cell ++ rest → now ≡ front ++ encoded_cell cell → now ++ rest ≡ whole
row_more front cell next rest whole now e more is = grind (arith, common_steps)

-- and what lies past it stays
pub past_more : (end m to : ℕ) (was area now : List ℕ) → to ≡ end + m → drop to now ≡ drop to area → drop end area ≡ drop end was → drop to now ≡ drop to was
past_more end m to was area now e kept past =
    kept ∙ ap (λ n. drop n area) e ∙ sym (drop-drop m end area) ∙ ap (drop m) past ∙ drop-drop m end was ∙ sym (ap (λ n. drop n was) e)

-- all cells are written
pub row_done : (end n x : ℕ) (was area rest whole : List ℕ) → take end area ++ rest ≡ whole → rest ≡ [] → drop end area ≡ drop end (set was 0 x) → end ≡ n → 0 < n → area ≡ whole ++ drop n was
row_done end n x was area rest whole e none past is some =
    let front : take end area ≡ whole = sym (ap (λ l. take end area ++ l) none ∙ append-nil (take end area)) ∙ e in
    let back : drop end area ≡ drop n was = past ∙ ap (λ m. drop m (set was 0 x)) is ∙ drop-set-lt n was 0 x some in
    sym (take-append-drop end area) ∙ (λ i. front i ++ back i)
