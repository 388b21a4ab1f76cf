use Rattle.std.proofs.Common.{◌≡◌, ℕ, ◌+◌, ◌<◌, get_or}
use Rattle.slotstore.specs.Slot.{links}
use Rattle.slotstore.proofs.store.SlotStore.new.Given as goal

abbrev pub invariant-loop-i : goal.invariant-loop-i
invariant-loop-i l = (k : ℕ) → k < l.i → get_or (links l.slot-items) k 0 ≡ k + 1
