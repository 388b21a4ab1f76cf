-- A row taken out: its slot goes behind the last row.
use Rattle.std.proofs.Common.{◌≡◌, ℕ, suc, ◌+◌, ◌-◌, ◌<◌, ◌≤◌, cond, ltb, ◌≢◌, List, [], map, length, get_or, None, sym, refl, ap, ◌∙◌, ⊎_elim, arith}
use Rattle.std.specs.List.{range_with_len, remove as without}
use Rattle.std.proofs.lemmas.List.{length-set}
use Rattle.std.proofs.lemmas.List.FromFn.{fill_by_all}
use Rattle.std.proofs.lemmas.List.Edits.{length-remove, get_or-remove_below, get_or-remove_above}
use Rattle.std.proofs.lemmas.Bool.{cases_lt}
use Rattle.std.proofs.lemmas.Bool.Decides.{nat_tests}
use Rattle.rowmodel.specs.Meaning.{table, rows_of}
use Rattle.rowmodel.specs.Needs.{remove_unmet}
use Rattle.rowmodel.specs.Calls.{removed}
use Rattle.rowmodel.proofs.Kept.{sound_removed}
use Rattle.slotstore.specs.declared.slot.Slot.{Slot}
use Rattle.slotstore.specs.declared.chain.Chain.{Chain}
use Rattle.slotstore.specs.declared.store.SlotStore.{SlotStore}
use Rattle.slotstore.specs.Slot.{links, contents}
use Rattle.slotstore.specs.Chain.{chain_at, spot, InUse}
use Rattle.slotstore.specs.Store.{row_along, rows_along, slot_meaning}
use Rattle.slotstore.proofs.Tables.{used_here, length-along, row_is}
use Rattle.slotstore.proofs.Moves.{link_between}
use Rattle.slotstore.proofs.Bounds.{meaning_of}
use Rattle.slotstore.proofs.Keeps.{Ghosts, keeps}
use Rattle.slotstore.proofs.Turns.{turned, turn_moved, turn_meaning}

-- the place that the slot at place j had, where the one at place k goes behind the others of c
abbrev pub behind : ℕ → ℕ → ℕ → ℕ
behind k c j = cond (ltb j k) j (cond (ltb (j + 1) c) (j + 1) (cond (ltb j c) k j))

pub behind_inside : (k c n : ℕ) → k < c → c ≤ n → (j : ℕ) → j < n → behind k c j < n
behind_inside k c n place few j l = grind (arith, nat_tests)

pub behind_once : (k c : ℕ) → k < c → (i j : ℕ) → behind k c i ≡ behind k c j → i ≡ j
behind_once k c place i j e = grind (arith, nat_tests)

-- so the first places have the rows without that one
rows_behind : (ss : List Slot) (cs : List Chain) (t k : ℕ) → k < (chain_at cs t).count →
    map (λ j. row_along ss cs t (behind k (chain_at cs t).count j)) (range_with_len 0 ((chain_at cs t).count - 1)) ≡ without (rows_along ss cs t) k
rows_behind ss cs t k place =
    let n = (chain_at cs t).count in
    let rows = rows_along ss cs t in
    let long = length-along ss cs t in
    sym (fill_by_all (λ j. row_along ss cs t (behind k n j)) (without rows k) (n - 1) [] (omega (arith, length-remove rows k (omega arith)))
    (λ j l. ⊎_elim
    (λ below. let same : behind k n j ≡ j = grind (arith, nat_tests) in
    get_or-remove_below rows k [] j below (omega arith) ∙ row_is ss cs t j (omega arith) ∙ ap (row_along ss cs t) (sym same))
    (λ above. let same : behind k n j ≡ j + 1 = grind (arith, nat_tests) in
    get_or-remove_above rows k [] j above (omega arith) ∙ row_is ss cs t (j + 1) (omega arith) ∙ ap (row_along ss cs t) (sym same))
    (cases_lt j k)))

module _ (s : SlotStore) (t k : ℕ) (used : InUse s.chains t) (place : k < (chain_at s.chains t).count) (ss' : List Slot) (head : ℕ) (filled : contents ss' ≡ contents s.memory.slots.now)
    (starts : head ≡ spot (links s.memory.slots.now) s.chains t (behind k (chain_at s.chains t).count 0))
    (steps : (j : ℕ) → suc j < (chain_at s.chains t).size →
    get_or (links ss') (spot (links s.memory.slots.now) s.chains t (behind k (chain_at s.chains t).count j)) 0 ≡ spot (links s.memory.slots.now) s.chains t (behind k (chain_at s.chains t).count (suc j)))
    (others : (u j : ℕ) → u ≢ t → j < (chain_at s.chains u).size → get_or (links ss') (spot (links s.memory.slots.now) s.chains u j) 0 ≡ spot (links s.memory.slots.now) s.chains u (suc j)) where
  abbrev n : ℕ
  n = (chain_at s.chains t).count

  abbrev shorter : List Chain
  shorter = turned s t used (behind k n) (behind_inside k n (chain_at s.chains t).size place used.few) (behind_once k n place) ss' head (n - 1) filled starts steps others

  pub remove_meaning : slot_meaning ss' shorter ≡ removed (meaning_of s) t k
  remove_meaning =
      turn_meaning s t used (behind k n) (behind_inside k n (chain_at s.chains t).size place used.few) (behind_once k n place) ss' head (n - 1) filled starts steps others
      (without (rows_of (table (meaning_of s) t)) k)
      (rows_behind s.memory.slots.now s.chains t k place ∙ ap (λ x. without (rows_of x) k) (sym (used_here s.memory.slots.now s.chains t used.below used.some)))
      (omega (arith, used.few))

  pub remove_keeps : length ss' ≡ length s.memory.slots.now → remove_unmet (meaning_of s) t k ≡ None → Ghosts ss' shorter
  remove_keeps long o =
      keeps s ss' shorter (removed (meaning_of s) t k) (length-set s.chains t _) long
      (turn_moved s t used (behind k n) (behind_inside k n (chain_at s.chains t).size place used.few) (behind_once k n place) ss' head (n - 1) filled starts steps others)
      remove_meaning (sound_removed (meaning_of s) t k s.sound o)

-- the last row is behind the others already
module _ (s : SlotStore) (t k : ℕ) (last : k + 1 ≡ (chain_at s.chains t).count) where
  unmoved : (j : ℕ) → behind k (chain_at s.chains t).count j ≡ j
  unmoved j = grind (arith, nat_tests)

  pub last_starts : (chain_at s.chains t).head ≡ spot (links s.memory.slots.now) s.chains t (behind k (chain_at s.chains t).count 0)
  last_starts = ap (spot (links s.memory.slots.now) s.chains t) (sym (unmoved 0))

  pub last_steps : (j : ℕ) →
      get_or (links s.memory.slots.now) (spot (links s.memory.slots.now) s.chains t (behind k (chain_at s.chains t).count j)) 0 ≡ spot (links s.memory.slots.now) s.chains t (behind k (chain_at s.chains t).count (suc j))
  last_steps j =
      link_between (links s.memory.slots.now) (links s.memory.slots.now) s.chains t (behind k (chain_at s.chains t).count j) t (behind k (chain_at s.chains t).count (suc j)) t j t (suc j)
      refl (unmoved j) refl (unmoved (suc j)) refl
