use Rattle.rowmodel.proofs.Refusals.{new_at, none_at_ok}
use Rattle.bytestore.proofs.After.{make_after}
use Rattle.bytestore.proofs.store.ByteStoreRowStore.make_table.Goals as goal

pub invariant_of-self : goal.invariant_of-self
invariant_of-self c = (make_after c.args.self.now c.args.number c.args.limit (none_at_ok _ _ _ c.in_ok-check_make.ensures.result)).owed

pub returns-clause-after : goal.returns-clause-after
returns-clause-after c =
    let o = none_at_ok _ _ _ c.in_ok-check_make.ensures.result in
    new_at _ _ _ _ o (make_after c.args.self.now c.args.number c.args.limit o).means
