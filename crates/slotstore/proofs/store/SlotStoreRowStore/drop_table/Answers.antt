use Rattle.std.proofs.Common.{◌≡◌, ◌-◌, List, set, None, ap, ◌∙◌, arith}
use Rattle.std.proofs.lemmas.List.{length-set}
use Rattle.rowmodel.specs.Needs.{drop_unmet}
use Rattle.rowmodel.specs.Calls.{dropped}
use Rattle.rowmodel.proofs.Refusals.{new_at, none_at_ok}
use Rattle.rowmodel.proofs.Kept.{sound_dropped}
use Rattle.slotstore.specs.declared.chain.Chain.{Chain}
use Rattle.slotstore.specs.Slot.{links}
use Rattle.slotstore.specs.Chain.{chain_at, spot}
use Rattle.slotstore.specs.Store.{slot_meaning}
use Rattle.slotstore.proofs.Bounds.{meaning_of, roomy_with}
use Rattle.slotstore.proofs.Keeps.{Ghosts, keeps}
use Rattle.slotstore.proofs.Joins.{joined, join_moved, join_meaning}
use Rattle.slotstore.proofs.store.SlotStoreRowStore.drop_table.Goals as goal
use Rattle.slotstore.proofs.store.SlotStoreRowStore.drop_table.Goals.{After-link}

pub overflow_add-self : goal.overflow_add-self
overflow_add-self c = let h = roomy_with c.args.self.now c.args.number c.in_ok-check_used.ensures.found in omega arith

linked : (c : After-link) →
    links c.link.new.self.slots.now
    ≡ set (links c.args.self.now.memory.slots.now) (spot (links c.args.self.now.memory.slots.now) c.args.self.now.chains c.args.number ((chain_at c.args.self.now.chains c.args.number).size - 1)) (chain_at c.args.self.now.chains 16).head
linked c = c.link.ensures.linked ∙ ap (λ i. set (links c.args.self.now.memory.slots.now) i (chain_at c.args.self.now.chains 16).head) c.reach-last.ensures.result

-- the chains after the call
abbrev after : After-link → List Chain
after c = joined c.args.self.now c.args.number c.in_ok-check_used.ensures.found c.link.new.self.slots.now (linked c) c.link.ensures.filled

-- no need is unmet, and the slots and chains mean what is left
done : (c : After-link) →
    (drop_unmet (meaning_of c.args.self.now) c.args.number ≡ None)
    × (slot_meaning c.link.new.self.slots.now (after c) ≡ dropped (meaning_of c.args.self.now) c.args.number)
    × Ghosts c.link.new.self.slots.now (after c)
done c =
    let s = c.args.self.now in
    let t = c.args.number in
    let ss = c.link.new.self.slots.now in
    let checked = c.in_ok-check_used.ensures in
    let o : drop_unmet (meaning_of s) t ≡ None = none_at_ok _ _ _ checked.result in
    let m = join_meaning s t checked.found ss (linked c) c.link.ensures.filled in (
      o,
      m,
      keeps s ss (after c) (dropped (meaning_of s) t) (simp length-set) c.link.ensures.long
          (join_moved s t checked.found ss (linked c) c.link.ensures.filled) m (sound_dropped (meaning_of s) t s.sound o),
    )

pub invariant_of-self : goal.invariant_of-self
invariant_of-self c = (done (goal.at.invariant_of-self c).After-link).2

pub returns-clause-after : goal.returns-clause-after
returns-clause-after c =
    let d = done (goal.at.returns-clause-after c).After-link in
    new_at _ _ _ _ d.0 d.1
