use Rattle.std.proofs.Common.{◌≡◌, ◌<◌, cond, set, Some, None, refl, ap, ◌∙◌, arith}
use Rattle.std.proofs.lemmas.Bool.{lt-ltb, le-ltb}
use Rattle.rowmodel.specs.declared.StoreFault.TheVariants.{Full}
use Rattle.rowmodel.specs.Needs.{append_unmet}
use Rattle.rowmodel.proofs.Refusals.{err_at, old_at, ok_at, new_at, none_at_ok, value_at_ok}
use Rattle.slotstore.specs.Slot.{contents, links}
use Rattle.slotstore.specs.Chain.{chain_at, spot}
use Rattle.slotstore.proofs.Bounds.{meaning_of}
use Rattle.slotstore.proofs.Unmet.{append_left}
use Rattle.slotstore.proofs.Rows.{append_meaning, append_keeps}
use Rattle.slotstore.proofs.store.SlotStoreRowStore.append.Goals as goal
use Rattle.slotstore.proofs.store.SlotStoreRowStore.append.Goals.{After-write}

pub returns-then-table : goal.returns-then-table
returns-then-table c =
    let checked = c.in_ok-check_used.ensures in
    let o : append_unmet (meaning_of c.args.self.now) c.args.number c.args.row.now ≡ Some Full =
    append_left c.args.self.now c.args.number checked.found (none_at_ok _ _ _ checked.result) c.args.row.now (none_at_ok _ _ _ c.in_ok-row.ensures)
    ∙ ap (λ b. cond b None (Some Full)) (le-ltb _ _ (omega arith)) in
    record { result = err_at _ _ _ o; after = old_at _ _ _ _ o }

-- there is room for the row, no need is unmet, and the row is written to the slot behind the rows
room : (c : After-write) → (chain_at c.args.self.now.chains c.args.number).count < (chain_at c.args.self.now.chains c.args.number).size
room c = omega (arith, c.in_ok-check_used.ensures.found.few)

none : (c : After-write) → append_unmet (meaning_of c.args.self.now) c.args.number c.args.row.now ≡ None
none c =
    let checked = c.in_ok-check_used.ensures in
    append_left c.args.self.now c.args.number checked.found (none_at_ok _ _ _ checked.result) c.args.row.now (none_at_ok _ _ _ c.in_ok-row.ensures)
    ∙ ap (λ b. cond b None (Some Full)) (lt-ltb _ _ (room c))

filled : (c : After-write) →
    contents c.write.new.self.slots.now
    ≡ set (contents c.args.self.now.memory.slots.now) (spot (links c.args.self.now.memory.slots.now) c.args.self.now.chains c.args.number (chain_at c.args.self.now.chains c.args.number).count) c.args.row.now
filled c =
    c.write.ensures.filled ∙ ap (set (contents c.args.self.now.memory.slots.now) c.reach-next.result) (value_at_ok _ _ _ c.in_ok-row.ensures)
    ∙ ap (λ i. set (contents c.args.self.now.memory.slots.now) i c.args.row.now) c.reach-next.ensures.result

pub invariant_of-self : goal.invariant_of-self
invariant_of-self c =
    let w = (goal.at.invariant_of-self c).After-write in
    append_keeps c.args.self.now c.args.number c.args.row.now c.write.new.self.slots.now c.in_ok-check_used.ensures.found (room w) c.write.ensures.linked (filled w) c.write.ensures.long (none w)

pub returns : goal.returns
returns c =
    let w = (goal.at.returns c).After-write in
    record {
      result = ok_at _ _ _ (none w) refl;
      after = new_at _ _ _ _ (none w) (append_meaning c.args.self.now c.args.number c.args.row.now c.write.new.self.slots.now c.in_ok-check_used.ensures.found (room w) c.write.ensures.linked (filled w));
    }
