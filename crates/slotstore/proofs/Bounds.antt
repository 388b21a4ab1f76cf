-- What a store's ghost fields say of its chains.
use Rattle.std.proofs.Common.{◌≡◌, ℕ, ◌+◌, ◌<◌, ◌≤◌, ◌≢◌, [], length, get_or, ap, ◌∙◌, subst, arith}
use Rattle.rowmodel.specs.Meaning.{unused, Meaning, table, limit_of, rows_of, row_at}
use Rattle.rowmodel.proofs.Tables.{limits_set}
use Rattle.slotstore.specs.declared.store.SlotStore.{SlotStore}
use Rattle.slotstore.specs.Slot.{links}
use Rattle.slotstore.specs.Chain.{chain_at, spot, InUse}
use Rattle.slotstore.specs.Store.{row_along, slot_meaning}
use Rattle.slotstore.proofs.Tables.{used_here, length-along, row_is}

abbrev pub meaning_of : SlotStore → Meaning
meaning_of s = slot_meaning s.memory.slots.now s.chains

module _ (s : SlotStore) (t : ℕ) where
  -- the chain of a table
  pub in_use : t < 16 → 0 < (chain_at s.chains t).size → InUse s.chains t
  in_use l some =
      let e = used_here s.memory.slots.now s.chains t l some in
      record {
        below = l;
        some = some;
        small = subst (λ x. limit_of x ≤ 255) e (s.sound.limited t).1;
        few = omega (arith, length-along s.memory.slots.now s.chains t, subst (λ x. length (rows_of x) ≤ limit_of x) e (s.sound.limited t).2);
      }

  -- its limit and its number of rows
  pub count_is : InUse s.chains t → length (rows_of (table (meaning_of s) t)) ≡ (chain_at s.chains t).count
  count_is u = ap (λ x. length (rows_of x)) (used_here s.memory.slots.now s.chains t u.below u.some) ∙ length-along s.memory.slots.now s.chains t

  pub limit_is : InUse s.chains t → limit_of (table (meaning_of s) t) ≡ (chain_at s.chains t).size
  limit_is u = ap limit_of (used_here s.memory.slots.now s.chains t u.below u.some)

  -- its size and the free slots together are a number of 16 bits
  pub roomy_with : InUse s.chains t → (chain_at s.chains 16).size + (chain_at s.chains t).size ≤ 65535
  roomy_with u =
      omega (arith, s.sound.roomy, limits_set (meaning_of s).tables t unused u.below, limit_is u)

  -- slots at two places differ
  pub differ : (k u j : ℕ) → k < (chain_at s.chains t).size → j < (chain_at s.chains u).size → (t ≡ u → k ≡ j → ⊥) →
      spot (links s.memory.slots.now) s.chains t k ≢ spot (links s.memory.slots.now) s.chains u j
  differ k u j lk lj not-both e =
      let both = s.apart (record { one = record { chain = t; place = k; inside = lk }; other = record { chain = u; place = j; inside = lj }; same = e }) in
      not-both both.0 both.1

  -- the slot at a place of a chain is one of the slots
  pub spot_within : (k : ℕ) → k < (chain_at s.chains t).size → spot (links s.memory.slots.now) s.chains t k < length s.memory.slots.now
  spot_within k l = s.within (record { chain = t; place = k; inside = l })

  -- a row of a table
  pub row_here : (k : ℕ) → InUse s.chains t → k < (chain_at s.chains t).count → row_at (meaning_of s) t k ≡ row_along s.memory.slots.now s.chains t k
  row_here k u l =
      ap (λ x. get_or (rows_of x) k []) (used_here s.memory.slots.now s.chains t u.below u.some) ∙ row_is s.memory.slots.now s.chains t k l
