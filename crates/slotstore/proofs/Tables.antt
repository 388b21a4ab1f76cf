-- What slots and chains mean at one number, and what a change at one number makes of it.
use Rattle.std.proofs.Common.{◌≡◌, ℕ, zero, suc, ◌<◌, ◌≤◌, ◌≢◌, ◌⊎◌, List, [], map, length, get_or, sym, refl, ap, ◌∙◌, ⊎_elim, arith}
use Rattle.std.specs.List.{range_with_len}
use Rattle.std.proofs.lemmas.List.{get_or_past}
use Rattle.std.proofs.lemmas.Bool.{cases_lt}
use Rattle.std.proofs.lemmas.List.FromFn.{length-map-range_with_len, get_or-map-range_with_len}
use Rattle.rowmodel.specs.Meaning.{Table, unused, used, table, table_of, with_table, with_free, with_rows}
use Rattle.rowmodel.specs.Calls.{listed}
use Rattle.rowmodel.proofs.Tables.{map_counting_same, map_counting_set, table_of_used}
use Rattle.slotstore.specs.declared.slot.Slot.{Slot}
use Rattle.slotstore.specs.declared.chain.Chain.{Chain}
use Rattle.slotstore.specs.Slot.{contents, links}
use Rattle.slotstore.specs.Chain.{follow, chain_at}
use Rattle.slotstore.specs.Store.{row_along, rows_along, table_along, slot_meaning}

module _ (ss : List Slot) (cs : List Chain) (t : ℕ) where
  pub table_is : t < 16 → table (slot_meaning ss cs) t ≡ table_along ss cs t
  table_is l = get_or-map-range_with_len (table_along ss cs) 0 16 t t unused l (omega arith)

  pub used_here : t < 16 → 0 < (chain_at cs t).size → table (slot_meaning ss cs) t ≡ used (chain_at cs t).size (rows_along ss cs t)
  used_here l h = table_is l ∙ table_of_used (chain_at cs t).size (rows_along ss cs t) h

  pub unused_here : (16 ≤ t) ⊎ ((chain_at cs t).size ≡ 0) → table (slot_meaning ss cs) t ≡ unused
  unused_here h =
      ⊎_elim (λ past. get_or_past (slot_meaning ss cs).tables t unused past)
      (λ e. ⊎_elim (λ l. table_is l ∙ ap (λ n. table_of n (rows_along ss cs t)) e) (λ past. get_or_past (slot_meaning ss cs).tables t unused past) (cases_lt t 16))
      h

  pub length-along : length (rows_along ss cs t) ≡ (chain_at cs t).count
  length-along = length-map-range_with_len (row_along ss cs t) 0 (chain_at cs t).count

  pub row_is : (k : ℕ) → k < (chain_at cs t).count → get_or (rows_along ss cs t) k [] ≡ row_along ss cs t k
  row_is k l = get_or-map-range_with_len (row_along ss cs t) 0 (chain_at cs t).count k k [] l (omega arith)

-- what a chain keeps, if it is still the same table
pub record Kept (ss ss' : List Slot) (cs cs' : List Chain) (u : ℕ) : Type 0 where
  pub size : (chain_at cs' u).size ≡ (chain_at cs u).size
  pub count : (chain_at cs' u).count ≡ (chain_at cs u).count
  pub rows : 0 < (chain_at cs u).size → (k : ℕ) → k < (chain_at cs u).count → row_along ss' cs' u k ≡ row_along ss cs u k

-- the same chain, over the same slots
pub chain_kept : (ss : List Slot) (cs cs' : List Chain) (u : ℕ) → chain_at cs' u ≡ chain_at cs u → Kept ss ss cs cs' u
chain_kept ss cs cs' u e = record {
  size = ap (λ c. c.size) e;
  count = ap (λ c. c.count) e;
  rows = λ _ k _. ap (λ c. get_or (contents ss) (follow (links ss) c.head k) []) e;
}

module _ (ss ss' : List Slot) (cs cs' : List Chain) where
  pub table_kept : (u : ℕ) → Kept ss ss' cs cs' u → table_along ss' cs' u ≡ table_along ss cs u
  table_kept u kept = at (chain_at cs u).size refl
    where
      at : (n : ℕ) → n ≡ (chain_at cs u).size → table_along ss' cs' u ≡ table_along ss cs u
      at zero e = ap (λ m. table_of m (rows_along ss' cs' u)) (kept.size ∙ sym e) ∙ ap (λ m. table_of m (rows_along ss cs u)) e
      at (suc n) e =
          ap (λ m. table_of m (rows_along ss' cs' u)) kept.size
          ∙ ap (λ m. table_of (chain_at cs u).size (map (row_along ss' cs' u) (range_with_len 0 m))) kept.count
          ∙ ap (table_of (chain_at cs u).size) (map_counting_same (row_along ss' cs' u) (row_along ss cs u) (chain_at cs u).count (kept.rows (omega arith)))

  module _ (t : ℕ) (lt : t < 16) (others : (u : ℕ) → u < 16 → u ≢ t → Kept ss ss' cs cs' u) where
    pub changed : (x : Table) (n : ℕ) → table_along ss' cs' t ≡ x → (chain_at cs' 16).size ≡ n → slot_meaning ss' cs' ≡ with_free (with_table (slot_meaning ss cs) t x) n
    changed x n here free =
        ap (λ ts. record { tables = ts; free = (chain_at cs' 16).size })
        (map_counting_set (table_along ss cs) (table_along ss' cs') 16 t x lt here (λ u l ne. table_kept u (others u l ne)))
        ∙ ap (λ m. with_free (with_table (slot_meaning ss cs) t x) m) free

    -- the number is in use before and after, with the same limit
    pub listed_by : (rows : List (List ℕ)) → 0 < (chain_at cs t).size → (chain_at cs' t).size ≡ (chain_at cs t).size → (chain_at cs' 16).size ≡ (chain_at cs 16).size →
        rows_along ss' cs' t ≡ rows → slot_meaning ss' cs' ≡ listed (slot_meaning ss cs) t rows
    listed_by rows some size free is =
        changed (with_rows (table (slot_meaning ss cs) t) rows) (chain_at cs 16).size
        (ap (λ n. table_of n (rows_along ss' cs' t)) size ∙ table_of_used (chain_at cs t).size (rows_along ss' cs' t) some
        ∙ ap (used (chain_at cs t).size) is ∙ ap (λ x. with_rows x rows) (sym (used_here ss cs t lt some)))
        free
