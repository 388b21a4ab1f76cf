-- The needs of the calls, told by the chains.
use Rattle.std.proofs.Common.{◌≡◌, ℕ, ◌<◌, ◌≤◌, true, false, cond, ltb, List, ◌++◌, Some, None, sym, ap, ◌∙◌, ⊎_elim, arith}
use Rattle.std.proofs.lemmas.Bool.{cases_lt}
use Rattle.rowmodel.specs.declared.StoreFault.TheVariants.{Place, Full}
use Rattle.rowmodel.specs.Needs.{unmet, used_number, existing_place, allowed_row, below_limit, append_unmet, row_unmet, drop_unmet, make_unmet}
use Rattle.rowmodel.specs.Meaning.{is_used, limit_of, table}
use Rattle.rowmodel.proofs.Fronts.{front_met}
use Rattle.rowmodel.proofs.Needed.{make_met}
use Rattle.slotstore.specs.declared.store.SlotStore.{SlotStore}
use Rattle.slotstore.specs.Chain.{chain_at, InUse}
use Rattle.slotstore.proofs.Tables.{used_here}
use Rattle.slotstore.proofs.Bounds.{meaning_of, count_is, limit_is}

module _ (s : SlotStore) (t : ℕ) (used : InUse s.chains t) (number : drop_unmet (meaning_of s) t ≡ None) where
  -- a place in a used number: whether it is below the count
  pub row_left : (k : ℕ) → row_unmet (meaning_of s) t k ≡ cond (ltb k (chain_at s.chains t).count) None (Some Place)
  row_left k =
      front_met (used_number (meaning_of s) t) (existing_place (meaning_of s) t k) number
      ∙ ap (λ n. cond (ltb k n) None (Some Place)) (count_is s t used)

  -- a row of allowed length at a used number: whether the count is below the size
  pub append_left : (row : List ℕ) → unmet (allowed_row row) ≡ None → append_unmet (meaning_of s) t row ≡ cond (ltb (chain_at s.chains t).count (chain_at s.chains t).size) None (Some Full)
  append_left row allowed =
      front_met (used_number (meaning_of s) t) (allowed_row row ++ below_limit (meaning_of s) t) number
      ∙ front_met (allowed_row row) (below_limit (meaning_of s) t) allowed
      ∙ ap (λ n. cond (ltb n (limit_of (table (meaning_of s) t))) None (Some Full)) (count_is s t used)
      ∙ ap (λ n. cond (ltb (chain_at s.chains t).count n) None (Some Full)) (limit_is s t used)

-- What it says that a table can be made: the number is one of the sixteen and has no chain, and the free slots are enough.
pub record Available (s : SlotStore) (t n : ℕ) : Type 0 where
  pub below : t < 16
  pub unused : (chain_at s.chains t).size ≡ 0
  pub some : 1 ≤ n
  pub room : n ≤ (chain_at s.chains 16).size

pub available : (s : SlotStore) (t n : ℕ) → make_unmet (meaning_of s) t n ≡ None → Available s t n
available s t n o =
    let h = make_met (meaning_of s) t n o in
    record {
      below = h.0;
      unused = ⊎_elim
          (λ some. let used : is_used (table (meaning_of s) t) ≡ true = ap is_used (used_here s.memory.slots.now s.chains t h.0 some) in let z : true ≡ false = sym used ∙ h.1 in cc)
          (λ none. omega arith)
          (cases_lt 0 (chain_at s.chains t).size);
      some = h.2;
      room = h.4;
    }
