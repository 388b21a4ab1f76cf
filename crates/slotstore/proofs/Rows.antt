-- A row written into one slot of a table.
use Rattle.std.proofs.Common.{◌≡◌, ℕ, ◌+◌, ◌<◌, ◌≢◌, List, [], ◌∷◌, ◌++◌, map, length, get_or, set, None, sym, refl, ap, ◌∙◌, subst, arith}
use Rattle.std.specs.List.{range_with_len}
use Rattle.std.proofs.lemmas.List.{get_or-set_same, get_or-set_other, length-map, length-set}
use Rattle.std.proofs.lemmas.List.FromFn.{map-range_with_len_more}
use Rattle.rowmodel.specs.Meaning.{table, rows_of}
use Rattle.rowmodel.specs.Needs.{append_unmet, replace_unmet}
use Rattle.rowmodel.specs.Calls.{appended, replaced}
use Rattle.rowmodel.proofs.Tables.{map_counting_same, map_counting_set}
use Rattle.rowmodel.proofs.Kept.{sound_appended, sound_replaced}
use Rattle.slotstore.specs.declared.slot.Slot.{Slot}
use Rattle.slotstore.specs.declared.chain.Chain.{Chain}
use Rattle.slotstore.specs.declared.store.SlotStore.{SlotStore}
use Rattle.slotstore.specs.Slot.{content, links, contents}
use Rattle.slotstore.specs.Chain.{follow, chain_at, spot, InUse}
use Rattle.slotstore.specs.Store.{row_along, slot_meaning}
use Rattle.slotstore.proofs.Tables.{Kept, used_here, listed_by}
use Rattle.slotstore.proofs.Moves.{field_kept, stayed}
use Rattle.slotstore.proofs.Bounds.{meaning_of, in_use, differ, spot_within}
use Rattle.slotstore.proofs.Keeps.{Ghosts, keeps}

module _ (s : SlotStore) (t k : ℕ) (row : List ℕ) (ss' : List Slot) (cs' : List Chain)
    (used : InUse s.chains t) (inside : k < (chain_at s.chains t).size)
    (linked : links ss' ≡ links s.memory.slots.now)
    (filled : contents ss' ≡ set (contents s.memory.slots.now) (spot (links s.memory.slots.now) s.chains t k) row)
    (heads : (u : ℕ) → (chain_at cs' u).head ≡ (chain_at s.chains u).head)
    (sizes : (u : ℕ) → (chain_at cs' u).size ≡ (chain_at s.chains u).size) where
  abbrev ss : List Slot
  ss = s.memory.slots.now

  abbrev cs : List Chain
  cs = s.chains

  now_reads : (u j : ℕ) → row_along ss' cs' u j ≡ get_or (set (contents ss) (spot (links ss) cs t k) row) (spot (links ss) cs u j) []
  now_reads u j =
      ap (λ xs. get_or xs (spot (links ss') cs' u j) []) filled
      ∙ ap (λ ls. get_or (set (contents ss) (spot (links ss) cs t k) row) (spot ls cs' u j) []) linked
      ∙ ap (λ h. get_or (set (contents ss) (spot (links ss) cs t k) row) (follow (links ss) h j) []) (heads u)

  written : row_along ss' cs' t k ≡ row
  written = now_reads t k ∙ get_or-set_same (contents ss) (spot (links ss) cs t k) row [] (subst (λ n. spot (links ss) cs t k < n) (sym (length-map ss content)) (spot_within s t k inside))

  unwritten : (u j : ℕ) → j < (chain_at cs u).size → (u ≡ t → j ≡ k → ⊥) → row_along ss' cs' u j ≡ row_along ss cs u j
  unwritten u j l not-both = now_reads u j ∙ get_or-set_other (contents ss) (spot (links ss) cs t k) (spot (links ss) cs u j) row [] (differ s u j t k l inside not-both)

  others : ((u : ℕ) → u ≢ t → (chain_at cs' u).count ≡ (chain_at cs u).count) → (u : ℕ) → u < 16 → u ≢ t → Kept ss ss' cs cs' u
  others counts u l ne = record {
    size = sizes u;
    count = counts u ne;
    rows = λ some j lj. unwritten u j (omega (arith, (in_use s u l some).few)) (λ e _. ne e);
  }

  -- in the slot behind the rows: one row more
  more_meaning : k ≡ (chain_at cs t).count → (chain_at cs' t).count ≡ k + 1 → ((u : ℕ) → u ≢ t → (chain_at cs' u).count ≡ (chain_at cs u).count) →
      slot_meaning ss' cs' ≡ appended (meaning_of s) t row
  more_meaning end more counts =
      listed_by ss ss' cs cs' t used.below (others counts) (rows_of (table (meaning_of s) t) ++ (row ∷ [])) used.some (sizes t) (sizes 16)
      (ap (λ n. map (row_along ss' cs' t) (range_with_len 0 n)) more
      ∙ map-range_with_len_more (row_along ss' cs' t) 0 k k (omega arith)
      ∙ ap (λ xs. xs ++ (row_along ss' cs' t k ∷ [])) (map_counting_same (row_along ss' cs' t) (row_along ss cs t) k (λ j l. unwritten t j (omega arith) (λ _ e. omega arith)))
      ∙ ap (λ x. map (row_along ss cs t) (range_with_len 0 k) ++ (x ∷ [])) written
      ∙ ap (λ n. map (row_along ss cs t) (range_with_len 0 n) ++ (row ∷ [])) end
      ∙ ap (λ x. rows_of x ++ (row ∷ [])) (sym (used_here ss cs t used.below used.some)))

  -- at the place of a row: another one
  other_meaning : k < (chain_at cs t).count → ((u : ℕ) → (chain_at cs' u).count ≡ (chain_at cs u).count) → slot_meaning ss' cs' ≡ replaced (meaning_of s) t k row
  other_meaning place counts =
      listed_by ss ss' cs cs' t used.below (others (λ u _. counts u)) (set (rows_of (table (meaning_of s) t)) k row) used.some (sizes t) (sizes 16)
      (ap (λ n. map (row_along ss' cs' t) (range_with_len 0 n)) (counts t)
      ∙ map_counting_set (row_along ss cs t) (row_along ss' cs' t) (chain_at cs t).count k row place written (λ j l ne. unwritten t j (omega (arith, used.few)) (λ _ e. ne e))
      ∙ ap (λ x. set (rows_of x) k row) (sym (used_here ss cs t used.below used.some)))

-- the chains after an append
module _ (s : SlotStore) (t : ℕ) (row : List ℕ) (ss' : List Slot) (used : InUse s.chains t) (room : (chain_at s.chains t).count < (chain_at s.chains t).size)
    (linked : links ss' ≡ links s.memory.slots.now)
    (filled : contents ss' ≡ set (contents s.memory.slots.now) (spot (links s.memory.slots.now) s.chains t (chain_at s.chains t).count) row) where
  abbrev grown : Chain
  grown = record { head = (chain_at s.chains t).head; size = (chain_at s.chains t).size; count = (chain_at s.chains t).count + 1 }

  inside : t < length s.chains
  inside = omega (arith, used.below, s.long)

  heads : (u : ℕ) → (chain_at (set s.chains t grown) u).head ≡ (chain_at s.chains u).head
  heads u = field_kept (λ c. c.head) s.chains t grown u inside refl

  sizes : (u : ℕ) → (chain_at (set s.chains t grown) u).size ≡ (chain_at s.chains u).size
  sizes u = field_kept (λ c. c.size) s.chains t grown u inside refl

  pub append_meaning : slot_meaning ss' (set s.chains t grown) ≡ appended (meaning_of s) t row
  append_meaning =
      more_meaning s t (chain_at s.chains t).count row ss' (set s.chains t grown) used room linked filled heads sizes refl
      (ap (λ c. c.count) (get_or-set_same s.chains t grown _ inside))
      (λ u ne. ap (λ c. c.count) (get_or-set_other s.chains t u grown _ ne))

  pub append_keeps : length ss' ≡ length s.memory.slots.now → append_unmet (meaning_of s) t row ≡ None → Ghosts ss' (set s.chains t grown)
  append_keeps long o =
      keeps s ss' (set s.chains t grown) (appended (meaning_of s) t row) (length-set s.chains t grown) long
      (stayed (links s.memory.slots.now) (links ss') s.chains (set s.chains t grown) linked heads sizes) append_meaning
      (sound_appended (meaning_of s) t row s.sound o)

-- after a replacement they are the same
module _ (s : SlotStore) (t k : ℕ) (row : List ℕ) (ss' : List Slot) (used : InUse s.chains t) (place : k < (chain_at s.chains t).count)
    (linked : links ss' ≡ links s.memory.slots.now)
    (filled : contents ss' ≡ set (contents s.memory.slots.now) (spot (links s.memory.slots.now) s.chains t k) row) where
  pub replace_meaning : slot_meaning ss' s.chains ≡ replaced (meaning_of s) t k row
  replace_meaning = other_meaning s t k row ss' s.chains used (omega (arith, used.few)) linked filled (λ u. refl) (λ u. refl) place (λ u. refl)

  pub replace_keeps : length ss' ≡ length s.memory.slots.now → replace_unmet (meaning_of s) t k row ≡ None → Ghosts ss' s.chains
  replace_keeps long o =
      keeps s ss' s.chains (replaced (meaning_of s) t k row) refl long
      (stayed (links s.memory.slots.now) (links ss') s.chains s.chains linked (λ u. refl) (λ u. refl)) replace_meaning
      (sound_replaced (meaning_of s) t k row s.sound o)
