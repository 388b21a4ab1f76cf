-- How a call keeps the ghost fields.
use Rattle.std.proofs.Common.{◌≡◌, ℕ, ◌<◌, List, [], length, get_or, sym, ap, ◌∙◌, subst, arith}
use Rattle.rowmodel.specs.Meaning.{Meaning, Sound}
use Rattle.slotstore.specs.declared.slot.Slot.{Slot}
use Rattle.slotstore.specs.declared.chain.Chain.{Chain}
use Rattle.slotstore.specs.declared.store.SlotStore.{SlotStore}
use Rattle.slotstore.specs.Slot.{contents, links}
use Rattle.slotstore.specs.Chain.{chain_at, spot, Within, Apart}
use Rattle.slotstore.specs.Store.{row_along, slot_meaning}
use Rattle.slotstore.proofs.Tables.{Kept}
use Rattle.slotstore.proofs.Bounds.{in_use}
use Rattle.slotstore.proofs.Moves.{Moved, stood, moved_within, moved_apart}

-- the ghost fields of slots and chains, by name
abbrev pub Ghosts : List Slot → List Chain → Type 0
Ghosts ss cs =
    record { long : length cs ≡ 17; within : Within (length ss) (links ss) cs; apart : Apart (links ss) cs; sound : Sound (slot_meaning ss cs) }

-- the slots keep their number, each place was one before, and what the slots and chains mean is sound
pub keeps : (s : SlotStore) (ss : List Slot) (cs : List Chain) (m : Meaning) →
    length cs ≡ length s.chains → length ss ≡ length s.memory.slots.now → Moved (links s.memory.slots.now) (links ss) s.chains cs → slot_meaning ss cs ≡ m → Sound m →
    Ghosts ss cs
keeps s ss cs m chains slots moved e sound =
    let ls = links s.memory.slots.now in
    record {
      long = chains ∙ s.long;
      within = subst (λ n. Within n (links ss) cs) (sym slots) (moved_within ls (links ss) s.chains cs moved (length s.memory.slots.now) s.within);
      apart = moved_apart ls (links ss) s.chains cs moved s.apart;
      sound = subst Sound (sym e) sound;
    }

-- the rows lie where they lay
module _ (s : SlotStore) (ss' : List Slot) (cs' : List Chain) (m : Moved (links s.memory.slots.now) (links ss') s.chains cs') (filled : contents ss' ≡ contents s.memory.slots.now) (u : ℕ) where
  pub row_moved : (k : ℕ) → k < (chain_at cs' u).size → row_along ss' cs' u k ≡ row_along s.memory.slots.now s.chains (m.chain u k) (m.place u k)
  row_moved k l =
      ap (λ xs. get_or xs (spot (links ss') cs' u k) []) filled
      ∙ ap (λ i. get_or (contents s.memory.slots.now) i []) (stood (links s.memory.slots.now) (links ss') s.chains cs' m u k l)

  -- so a chain whose places stay is the same table
  pub moved_kept : u < 16 → (chain_at cs' u).size ≡ (chain_at s.chains u).size → (chain_at cs' u).count ≡ (chain_at s.chains u).count →
      ((k : ℕ) → m.chain u k ≡ u) → ((k : ℕ) → m.place u k ≡ k) → Kept s.memory.slots.now ss' s.chains cs' u
  moved_kept l size count chain place = record {
    size = size;
    count = count;
    rows = λ some k lk. row_moved k (omega (arith, (in_use s u l some).few))
        ∙ ap (λ w. row_along s.memory.slots.now s.chains w (m.place u k)) (chain k) ∙ ap (row_along s.memory.slots.now s.chains u) (place k);
  }
