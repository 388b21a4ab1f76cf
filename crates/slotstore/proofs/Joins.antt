-- A table's chain put before the free one.
use Rattle.std.proofs.Common.{◌≡◌, ℕ, suc, ◌+◌, ◌-◌, ◌<◌, cond, eqb, ltb, ◌≢◌, List, get_or, set, sym, ap, ◌∙◌, subst, ⊎_elim, arith}
use Rattle.std.proofs.lemmas.List.{get_or-set_same, get_or-set_other, length-map}
use Rattle.std.proofs.lemmas.Bool.{cases_eq, cases_order}
use Rattle.std.proofs.lemmas.Bool.Decides.{nat_tests}
use Rattle.rowmodel.specs.Meaning.{unused, limit_of, table, table_of}
use Rattle.rowmodel.specs.Calls.{dropped}
use Rattle.slotstore.specs.declared.slot.Slot.{Slot}
use Rattle.slotstore.specs.declared.chain.Chain.{Chain}
use Rattle.slotstore.specs.declared.store.SlotStore.{SlotStore}
use Rattle.slotstore.specs.Slot.{link, links, contents}
use Rattle.slotstore.specs.Chain.{chain_at, spot, InUse}
use Rattle.slotstore.specs.Store.{rows_along, slot_meaning}
use Rattle.slotstore.proofs.Tables.{Kept, changed}
use Rattle.slotstore.proofs.Moves.{Moved, field_sets, link_between}
use Rattle.slotstore.proofs.Bounds.{meaning_of, differ, spot_within, limit_is}
use Rattle.slotstore.proofs.Keeps.{moved_kept}

module _ (s : SlotStore) (t : ℕ) (used : InUse s.chains t) (ss' : List Slot)
    (linked : links ss' ≡ set (links s.memory.slots.now) (spot (links s.memory.slots.now) s.chains t ((chain_at s.chains t).size - 1)) (chain_at s.chains 16).head)
    (filled : contents ss' ≡ contents s.memory.slots.now) where
  abbrev ss : List Slot
  ss = s.memory.slots.now

  abbrev ls : List ℕ
  ls = links ss

  abbrev cs : List Chain
  cs = s.chains

  abbrev n : ℕ
  n = (chain_at cs t).size

  abbrev gone : Chain
  gone = record { head = 0; size = 0; count = 0 }

  abbrev longer : Chain
  longer = record { head = (chain_at cs t).head; size = (chain_at cs 16).size + n; count = 0 }

  abbrev pub joined : List Chain
  joined = set (set cs t gone) 16 longer

  size_is : (u : ℕ) → (chain_at joined u).size ≡ cond (eqb u 16) ((chain_at cs 16).size + n) (cond (eqb u t) 0 (chain_at cs u).size)
  size_is u = field_sets (λ c. c.size) cs t gone longer u used.below s.long

  head_is : (u : ℕ) → (chain_at joined u).head ≡ cond (eqb u 16) (chain_at cs t).head (cond (eqb u t) 0 (chain_at cs u).head)
  head_is u = field_sets (λ c. c.head) cs t gone longer u used.below s.long

  abbrev from_chain : ℕ → ℕ → ℕ
  from_chain u k = cond (eqb u 16) (cond (ltb k n) t 16) u

  abbrev from_place : ℕ → ℕ → ℕ
  from_place u k = cond (eqb u 16) (cond (ltb k n) k (k - n)) k

  join_inside : (u k : ℕ) → k < (chain_at joined u).size → from_place u k < (chain_at cs (from_chain u k)).size
  join_inside u k l = let e = size_is u in grind (arith, nat_tests)

  join_once : (u k w j : ℕ) → k < (chain_at joined u).size → j < (chain_at joined w).size → from_chain u k ≡ from_chain w j → from_place u k ≡ from_place w j → (u ≡ w) × (k ≡ j)
  join_once u k w j lk lj e f = let a = size_is u in let b = size_is w in let h = used.below in (grind (arith, nat_tests), grind (arith, nat_tests))

  join_starts : (u : ℕ) → 0 < (chain_at joined u).size → (chain_at joined u).head ≡ spot ls cs (from_chain u 0) (from_place u 0)
  join_starts u l = let e = head_is u in let f = size_is u in let h = used.some in grind (arith, nat_tests)

  -- the last slot of the table leads to the free ones, and every other one where it did
  leads : (w j : ℕ) → j < (chain_at cs w).size → (w ≡ t → j ≡ n - 1 → ⊥) → get_or (links ss') (spot ls cs w j) 0 ≡ spot ls cs w (suc j)
  leads w j l not-both = ap (λ xs. get_or xs (spot ls cs w j) 0) linked ∙ get_or-set_other ls (spot ls cs t (n - 1)) (spot ls cs w j) (chain_at cs 16).head 0 (differ s w j t (n - 1) l (omega (arith, used.some)) not-both)

  leads_on : get_or (links ss') (spot ls cs t (n - 1)) 0 ≡ spot ls cs 16 0
  leads_on = ap (λ xs. get_or xs (spot ls cs t (n - 1)) 0) linked ∙ get_or-set_same ls (spot ls cs t (n - 1)) (chain_at cs 16).head 0 (subst (λ m. spot ls cs t (n - 1) < m) (sym (length-map ss link)) (spot_within s t (n - 1) (omega (arith, used.some))))

  join_steps : (u k : ℕ) → suc k < (chain_at joined u).size → get_or (links ss') (spot ls cs (from_chain u k) (from_place u k)) 0 ≡ spot ls cs (from_chain u (suc k)) (from_place u (suc k))
  join_steps u k l =
      let size = size_is u in
      let some = used.some in
      ⊎_elim
      (λ free. ⊎_elim
      (λ e. between t (n - 1) 16 0 (grind (arith, nat_tests)) (grind (arith, nat_tests)) (grind (arith, nat_tests)) (grind (arith, nat_tests)) leads_on)
      (λ o. ⊎_elim
      (λ h. between t k t (suc k) (grind (arith, nat_tests)) (grind (arith, nat_tests)) (grind (arith, nat_tests)) (grind (arith, nat_tests)) (leads t k (omega arith) (λ _ e. omega arith)))
      (λ h. between 16 (k - n) 16 (suc (k - n)) (grind (arith, nat_tests)) (grind (arith, nat_tests)) (grind (arith, nat_tests)) (grind (arith, nat_tests)) (leads 16 (k - n) (grind (arith, nat_tests)) (λ e _. omega (arith, used.below))))
      o)
      (cases_order (suc k) n))
      (λ ne. between u k u (suc k) (grind (arith, nat_tests)) (grind (arith, nat_tests)) (grind (arith, nat_tests)) (grind (arith, nat_tests)) (leads u k (grind (arith, nat_tests)) (λ e _. grind (arith, nat_tests))))
      (cases_eq u 16)
    where
      between : (w j v i : ℕ) → from_chain u k ≡ w → from_place u k ≡ j → from_chain u (suc k) ≡ v → from_place u (suc k) ≡ i → get_or (links ss') (spot ls cs w j) 0 ≡ spot ls cs v i →
          get_or (links ss') (spot ls cs (from_chain u k) (from_place u k)) 0 ≡ spot ls cs (from_chain u (suc k)) (from_place u (suc k))
      between = link_between ls (links ss') cs (from_chain u k) (from_place u k) (from_chain u (suc k)) (from_place u (suc k))

  pub join_moved : Moved ls (links ss') cs joined
  join_moved = record { chain = from_chain; place = from_place; inside = join_inside; once = join_once; starts = join_starts; steps = join_steps }

  join_others : (u : ℕ) → u < 16 → u ≢ t → Kept ss ss' cs joined u
  unfolding join_moved
  join_others u l ne =
      let size = size_is u in
      let count = field_sets (λ c. c.count) cs t gone longer u used.below s.long in
      moved_kept s ss' joined join_moved filled u l (grind (arith, nat_tests)) (grind (arith, nat_tests)) (λ k. grind (arith, nat_tests)) (λ k. grind (arith, nat_tests))

  pub join_meaning : slot_meaning ss' joined ≡ dropped (meaning_of s) t
  join_meaning =
      let size = size_is t in
      let below = used.below in
      let none : (chain_at joined t).size ≡ 0 = grind (arith, nat_tests) in
      changed ss ss' cs joined t used.below join_others unused ((chain_at cs 16).size + limit_of (table (meaning_of s) t))
      (ap (λ m. table_of m (rows_along ss' joined t)) none)
      (size_is 16 ∙ ap (λ m. (chain_at cs 16).size + m) (sym (limit_is s t used)))
