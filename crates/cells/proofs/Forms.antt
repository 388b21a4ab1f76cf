-- The laws of the form, and reading from it.
use Rattle.std.proofs.Common.{◌≡◌, ℕ, zero, suc, ◌+◌, ◌-◌, ◌<◌, ◌≤◌, leb, List, [], ◌∷◌, ◌++◌, length, get_or, take, drop, Some, None, Option, sym, refl, ap, ◌∙◌, ⊎_elim, add_assoc, arith}
use Rattle.std.proofs.lemmas.List.{at_drop_more, drop-drop, take_at, drop_at, take-append-drop, length-append, length-take-le}
use Rattle.std.proofs.lemmas.Bool.{cases_lt, le-leb, lt-leb, cond-true, cond-false}
use Rattle.cells.specs.Form.{encoded, encoded_cells, before, decoded, decoded_cells, string_of, behind, cell_from, RoundTrip, CellsRead, CountRead}

cells_back : (cs : List (List ℕ)) → decoded_cells (length cs) (encoded_cells cs) ≡ Some cs
cells_back [] = refl
cells_back (c ∷ cs) =
    let more : length c ≤ length (c ++ encoded_cells cs) = simp length-append (omega arith) in
    let others = ap (decoded_cells (length cs)) (drop_at c (encoded_cells cs) (length c) refl) ∙ cells_back cs in
    cond-true (leb (length c) (length (c ++ encoded_cells cs))) _ None (le-leb _ _ more) ∙ (λ i. before (take_at c (encoded_cells cs) (length c) refl i) (others i))

-- where a first cell was read before others
record Opened (k n : ℕ) (bs : List ℕ) (cs : List (List ℕ)) : Type 0 where
  within : n ≤ length bs
  rest : List (List ℕ)
  whole : cs ≡ take n bs ∷ rest
  others : decoded_cells k (drop n bs) ≡ Some rest

opened : (k n : ℕ) (bs : List ℕ) (cs : List (List ℕ)) → decoded_cells (suc k) (n ∷ bs) ≡ Some cs → Opened k n bs cs
opened k n bs cs h =
    ⊎_elim
    (λ (l : length bs < n). let p = cond-false (leb n (length bs)) (before (take n bs) (decoded_cells k (drop n bs))) None (lt-leb n (length bs) l) in absurd cc)
    (λ (l : n ≤ length bs). from l (decoded_cells k (drop n bs)) refl (sym (cond-true (leb n (length bs)) (before (take n bs) (decoded_cells k (drop n bs))) None (le-leb n (length bs) l)) ∙ h))
    (cases_lt (length bs) n)
  where
    from : n ≤ length bs → (o : Option (List (List ℕ))) → decoded_cells k (drop n bs) ≡ o → before (take n bs) o ≡ Some cs → Opened k n bs cs
    from l None e b = absurd cc
    from l (Some rs) e b = record { within = l; rest = rs; whole = cc; others = e }

-- what is known of bytes that were read as so many cells
record Read (k : ℕ) (bs : List ℕ) (cs : List (List ℕ)) : Type 0 where
  count : k ≡ length cs
  bytes : encoded_cells cs ≡ bs
  each : (j : ℕ) → cell_from bs j ≡ get_or cs j []

from_none : (j : ℕ) → cell_from [] j ≡ []
from_none zero = refl
from_none (suc j) = from_none j

read : (k : ℕ) (bs : List ℕ) (cs : List (List ℕ)) → decoded_cells k bs ≡ Some cs → Read k bs cs
read zero [] cs h =
    let e : cs ≡ [] = cc in
    record { count = sym (ap length e); bytes = ap encoded_cells e; each = λ j. from_none j ∙ sym (ap (λ l. get_or l j []) e) }
read zero (b ∷ bs) cs h = absurd cc
read (suc k) [] cs h = absurd cc
read (suc k) (n ∷ bs) cs h =
    let o = opened k n bs cs h in
    let r = read k (drop n bs) o.rest o.others in
    record {
      count = ap suc r.count ∙ sym (ap length o.whole);
      bytes = ap encoded_cells o.whole ∙ (λ i. length-take-le n bs o.within i ∷ (ap (λ l. take n bs ++ l) r.bytes ∙ take-append-drop n bs) i);
      each = either o.rest o.whole r.each;
    }
  where
    either : (rest : List (List ℕ)) → cs ≡ take n bs ∷ rest → ((j : ℕ) → cell_from (drop n bs) j ≡ get_or rest j []) → (j : ℕ) → cell_from (n ∷ bs) j ≡ get_or cs j []
    either rest e f zero = sym (ap (λ l. get_or l 0 []) e)
    either rest e f (suc j) = f j ∙ sym (ap (λ l. get_or l (suc j) []) e)

form_back : (bs : List ℕ) (cs : List (List ℕ)) → decoded bs ≡ Some cs → encoded cs ≡ bs
form_back [] cs h = absurd cc
form_back (n ∷ bs) cs h = let r = read n bs cs h in λ i. sym r.count i ∷ r.bytes i

pub round_trip : RoundTrip
round_trip = (cells_back, form_back)

pub cells_read : CellsRead
cells_read [] cs h = absurd cc
cells_read (n ∷ bs) cs h = (read n bs cs h).each

pub count_read : CountRead
count_read [] cs h = absurd cc
count_read (n ∷ bs) cs h = (read n bs cs h).count

-- the next cell begins where one ends
pub behind_at : (row : List ℕ) (p : ℕ) → p < length row → drop (p + (1 + get_or row p 0)) row ≡ behind (drop p row)
behind_at row p l = sym (at_drop_more behind row p 0 l ∙ drop-drop (get_or row p 0) (p + 1) row ∙ ap (λ n. drop n row) (add_assoc p 1 (get_or row p 0)))

-- one cell on
pub cell_on : (bs next : List ℕ) (k i : ℕ) → i < k → next ≡ behind bs → cell_from next (k - (i + 1)) ≡ cell_from bs (k - i)
cell_on bs next k i h is =
    let step : k - i ≡ suc (k - (i + 1)) = omega arith in
    ap (λ rest. cell_from rest (k - (i + 1))) is ∙ sym (ap (cell_from bs) step)

-- where nothing is left
pub cell_past : (bs : List ℕ) (k : ℕ) → bs ≡ [] → string_of bs ≡ cell_from bs k
cell_past bs k e = ap string_of e ∙ sym (from_none k) ∙ sym (ap (λ rest. cell_from rest k) e)
