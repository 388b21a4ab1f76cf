use Rattle.std.proofs.Common.{◌≡◌, ℕ, ◌+◌, ◌-◌, ◌<◌, List, get_or, set, None, refl, ap, ◌∙◌, inl, inr, arith}
use Rattle.rowmodel.specs.Needs.{remove_unmet}
use Rattle.rowmodel.specs.Calls.{removed}
use Rattle.rowmodel.proofs.Refusals.{new_at, none_at_ok, value_at_ok}
use Rattle.slotstore.specs.declared.slot.Slot.{Slot}
use Rattle.slotstore.specs.declared.chain.Chain.{Chain}
use Rattle.slotstore.specs.declared.store.SlotStore.{SlotStore}
use Rattle.slotstore.specs.Slot.{links}
use Rattle.slotstore.specs.Chain.{chain_at, spot}
use Rattle.slotstore.specs.Store.{slot_meaning}
use Rattle.slotstore.proofs.Bounds.{meaning_of}
use Rattle.slotstore.proofs.Keeps.{Ghosts}
use Rattle.slotstore.proofs.Removes.{remove_meaning, remove_keeps, last_starts, last_steps}
use Rattle.slotstore.proofs.Relinks.{relinked, Begins, relinked_starts, relinked_steps, relinked_others}
use Rattle.slotstore.proofs.store.SlotStoreRowStore.remove.Goals as goal
use Rattle.slotstore.proofs.store.SlotStoreRowStore.remove.Goals.{Then-k-count, After-link-3, then-k-eq0, else-k-eq0}

-- the chains after a call that begins the table's chain at a slot
abbrev after : SlotStore → ℕ → ℕ → List Chain
after s t head = set s.chains t (record { head = head; size = (chain_at s.chains t).size; count = (chain_at s.chains t).count - 1 })

-- no need is unmet, and the slots and chains mean the rows without that one
abbrev Done : SlotStore → ℕ → ℕ → List Slot → ℕ → Type 0
Done s t k ss head =
    (remove_unmet (meaning_of s) t k ≡ None) × (slot_meaning ss (after s t head) ≡ removed (meaning_of s) t k) × Ghosts ss (after s t head)

last_done : (c : Then-k-count) → Done c.args.self.now c.args.number c.args.place c.args.self.now.memory.slots.now (chain_at c.args.self.now.chains c.args.number).head
last_done c =
    let s = c.args.self.now in
    let t = c.args.number in
    let k = c.args.place in
    let ss = s.memory.slots.now in
    let found = c.in_ok-taken.ensures.found in
    let last : k + 1 ≡ (chain_at s.chains t).count = omega (arith, found.1) in
    let o : remove_unmet (meaning_of s) t k ≡ None = none_at_ok _ _ _ c.in_ok-taken.ensures.result in
    let head = (chain_at s.chains t).head in (
      o,
      remove_meaning s t k found.2 found.1 ss head refl (last_starts s t k last) (λ j l. last_steps s t k last j) (λ u j ne l. refl),
      remove_keeps s t k found.2 found.1 ss head refl (last_starts s t k last) (λ j l. last_steps s t k last j) (λ u j ne l. refl) refl o,
    )

pub invariant_of-self : goal.invariant_of-self
invariant_of-self c = (last_done (goal.at.invariant_of-self c).Then-k-count).2

pub returns-then-k-count-clause-after : goal.returns-then-k-count-clause-after
returns-then-k-count-clause-after c =
    let d = last_done (goal.at.returns-then-k-count-clause-after c).Then-k-count in
    new_at _ _ _ _ d.0 d.1

early : (c : After-link-3) → c.args.place + 1 < (chain_at c.args.self.now.chains c.args.number).count
early c = omega (arith, c.in_ok-taken.ensures.found.1)

begins : (c : After-link-3) → Begins c.args.self.now c.args.number c.args.place c.in_ok-taken.ensures.found.2 (early c) c.if-k-eq0.head.0 c.if-k-eq0.head.1
begins c =
    let ls = links c.args.self.now.memory.slots.now in
    let cs = c.args.self.now.chains in
    let t = c.args.number in
    let taken = value_at_ok _ _ _ c.in_ok-taken.ensures.result in
    elim c.if-k-eq0.branch [
      | then-k-eq0 w ↦
          let front : c.in_ok-taken.taken ≡ spot ls cs t 0 = taken ∙ ap (spot ls cs t) w.if-k-eq0.true in
          inl (w.if-k-eq0.true, ap (λ p. p.0) w.head-is ∙ c.next-after.ensures ∙ ap (λ i. get_or ls i 0) front, ap (λ p. p.1) w.head-is ∙ front)
      | else-k-eq0 w ↦ inr (omega arith, ap (λ p. p.0) w.head-is, ap (λ p. p.1) w.head-is ∙ w.reach.ensures.result)
    ]

linked : (c : After-link-3) → links c.link-3.new.self.slots.now ≡ relinked c.args.self.now c.args.number c.args.place c.in_ok-taken.ensures.found.2 (early c) c.if-k-eq0.head.1
linked c =
    let taken = value_at_ok _ _ _ c.in_ok-taken.ensures.result in
    let one = c.link.ensures.linked in
    let two = c.link-2.ensures.linked in
    let three = c.link-3.ensures.linked in
    let next = c.next-after.ensures in
    let end = c.next-end.ensures in
    let last = c.reach-last.ensures.result in
    cc

done : (c : After-link-3) → Done c.args.self.now c.args.number c.args.place c.link-3.new.self.slots.now c.if-k-eq0.head.0
done c =
    let s = c.args.self.now in
    let t = c.args.number in
    let k = c.args.place in
    let ss = c.link-3.new.self.slots.now in
    let found = c.in_ok-taken.ensures.found in
    let head = c.if-k-eq0.head.0 in
    let before = c.if-k-eq0.head.1 in
    let o : remove_unmet (meaning_of s) t k ≡ None = none_at_ok _ _ _ c.in_ok-taken.ensures.result in
    let filled = c.link-3.ensures.filled ∙ c.link-2.ensures.filled ∙ c.link.ensures.filled in
    let starts = relinked_starts s t k found.2 (early c) head before (begins c) in
    let steps = relinked_steps s t k found.2 (early c) head before (begins c) (links ss) (linked c) in
    let others = relinked_others s t k found.2 (early c) head before (begins c) (links ss) (linked c) in (
      o,
      remove_meaning s t k found.2 found.1 ss head filled starts steps others,
      remove_keeps s t k found.2 found.1 ss head filled starts steps others (c.link-3.ensures.long ∙ c.link-2.ensures.long ∙ c.link.ensures.long) o,
    )

pub invariant_of-self-2 : goal.invariant_of-self-2
invariant_of-self-2 c = (done (goal.at.invariant_of-self-2 c).After-link-3).2

pub returns-clause-after : goal.returns-clause-after
returns-clause-after c =
    let d = done (goal.at.returns-clause-after c).After-link-3 in
    new_at _ _ _ _ d.0 d.1
