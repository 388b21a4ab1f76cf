use Rattle.std.proofs.Common.{◌≡◌, ◌++◌, set, None, ap, ◌∙◌}
use Rattle.rowmodel.specs.Needs.{row_unmet, replace_unmet, used_number, existing_place, allowed_row}
use Rattle.rowmodel.proofs.Refusals.{new_at, none_at_ok, value_at_ok}
use Rattle.rowmodel.proofs.Fronts.{front_met}
use Rattle.slotstore.specs.Slot.{contents, links}
use Rattle.slotstore.specs.Chain.{spot}
use Rattle.slotstore.proofs.Bounds.{meaning_of}
use Rattle.slotstore.proofs.Rows.{replace_meaning, replace_keeps}
use Rattle.slotstore.proofs.store.SlotStoreRowStore.replace.Goals as goal
use Rattle.slotstore.proofs.store.SlotStoreRowStore.replace.Goals.{After-write}

-- no need is unmet, and the row is written to its slot
none : (c : After-write) → replace_unmet (meaning_of c.args.self.now) c.args.number c.args.place c.args.row.now ≡ None
none c =
    let s = c.args.self.now in
    let t = c.args.number in
    let k = c.args.place in
    front_met (used_number (meaning_of s) t ++ existing_place (meaning_of s) t k) (allowed_row c.args.row.now)
    (none_at_ok (row_unmet (meaning_of s) t k) c.in_ok-slot.slot (spot (links s.memory.slots.now) s.chains t k) c.in_ok-slot.ensures.result)
    ∙ none_at_ok _ _ _ c.in_ok-row.ensures

filled : (c : After-write) → contents c.write.new.self.slots.now ≡ set (contents c.args.self.now.memory.slots.now) (spot (links c.args.self.now.memory.slots.now) c.args.self.now.chains c.args.number c.args.place) c.args.row.now
filled c =
    c.write.ensures.filled ∙ ap (set (contents c.args.self.now.memory.slots.now) c.in_ok-slot.slot) (value_at_ok _ _ _ c.in_ok-row.ensures)
    ∙ ap (λ i. set (contents c.args.self.now.memory.slots.now) i c.args.row.now) (value_at_ok _ _ _ c.in_ok-slot.ensures.result)

pub invariant_of-self : goal.invariant_of-self
invariant_of-self c =
    let found = c.in_ok-slot.ensures.found in
    replace_keeps c.args.self.now c.args.number c.args.place c.args.row.now c.write.new.self.slots.now found.2 found.1 c.write.ensures.linked (filled c) c.write.ensures.long (none c)

pub returns-clause-after : goal.returns-clause-after
returns-clause-after c =
    let w = (goal.at.returns-clause-after c).After-write in
    let found = c.in_ok-slot.ensures.found in
    new_at _ _ _ _ (none w) (replace_meaning c.args.self.now c.args.number c.args.place c.args.row.now c.write.new.self.slots.now found.2 found.1 c.write.ensures.linked (filled w))
