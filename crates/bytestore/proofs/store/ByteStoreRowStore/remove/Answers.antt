use Rattle.std.proofs.Common.{◌-◌, arith}
use Rattle.rowmodel.proofs.Refusals.{new_at, none_at_ok}
use Rattle.bytestore.proofs.Stores.{region_of, place_fits, count_at}
use Rattle.bytestore.proofs.After.{remove_after}
use Rattle.bytestore.proofs.store.ByteStoreRowStore.remove.Goals as goal

pub overflow_add-gap : goal.overflow_add-gap
overflow_add-gap c = let h = c.in_ok-gap.ensures.found in omega (arith, h)

pub move_down-requires-clause-inside : goal.move_down-requires-clause-inside
move_down-requires-clause-inside c =
    let s = c.args.self.now in
    let t = c.args.number in
    let h = c.in_ok-gap.ensures.found in
    omega (arith, h, place_fits s t ((region_of s t).count - 1) (omega (arith, h, count_at s t h.2)))

pub invariant_of-self : goal.invariant_of-self
invariant_of-self c =
    let h = c.in_ok-gap.ensures in
    (remove_after c.args.self.now c.args.number c.move_down.new.self.bytes.now c.move_down.ensures.len c.args.place c.in_ok-gap.gap (none_at_ok _ _ _ h.result) h.found.0
    c.move_down.ensures.moved c.move_down.ensures.below c.move_down.ensures.above).owed

pub returns-clause-after : goal.returns-clause-after
returns-clause-after c =
    let h = c.in_ok-gap.ensures in
    let o = none_at_ok _ _ _ h.result in
    let e = (remove_after c.args.self.now c.args.number c.move_down.new.self.bytes.now c.move_down.ensures.len c.args.place c.in_ok-gap.gap o h.found.0
    c.move_down.ensures.moved c.move_down.ensures.below c.move_down.ensures.above).means in
    new_at _ _ _ _ o e
