use Rattle.std.proofs.Common.{arith}
use Rattle.rowmodel.proofs.Refusals.{new_at, none_at_ok}
use Rattle.bytestore.proofs.After.{end_fits, drop_after}
use Rattle.bytestore.proofs.store.ByteStoreRowStore.drop_table.Goals as goal

pub overflow_sub-top : goal.overflow_sub-top
overflow_sub-top c = let h = c.in_ok-gone.ensures.found in omega (arith, end_fits c.args.self.now c.args.number c.in_ok-gone.gone h.0 h.2)

pub move_down-requires-clause-inside : goal.move_down-requires-clause-inside
move_down-requires-clause-inside c =
    let h = c.in_ok-gone.ensures.found in
    omega (arith, c.args.self.now.fits, end_fits c.args.self.now c.args.number c.in_ok-gone.gone h.0 h.2)

pub overflow_sub-self : goal.overflow_sub-self
overflow_sub-self c = let h = c.in_ok-gone.ensures.found in omega (arith, end_fits c.args.self.now c.args.number c.in_ok-gone.gone h.0 h.2)

pub invariant_of-self : goal.invariant_of-self
invariant_of-self c =
    let h = c.in_ok-gone.ensures in
    (drop_after c.args.self.now c.args.number c.in_ok-gone.gone h.found.0 h.found.2 c.move_down.new.self.bytes.now c.end-end.result c.move_down.ensures.len c.end-end.ensures
    c.move_down.ensures.moved c.move_down.ensures.below c.closed_up-regions.result c.closed_up-regions.ensures (none_at_ok _ _ _ h.result)).owed

pub returns-clause-after : goal.returns-clause-after
returns-clause-after c =
    let h = c.in_ok-gone.ensures in
    let o = none_at_ok _ _ _ h.result in
    let e = (drop_after c.args.self.now c.args.number c.in_ok-gone.gone h.found.0 h.found.2 c.move_down.new.self.bytes.now c.end-end.result c.move_down.ensures.len c.end-end.ensures
    c.move_down.ensures.moved c.move_down.ensures.below c.closed_up-regions.result c.closed_up-regions.ensures o).means in
    new_at _ _ _ _ o e
