use Rattle.std.proofs.Common.{cond, Some, None, ap, ◌∙◌, arith}
use Rattle.std.proofs.lemmas.Bool.{lt-ltb, le-ltb}
use Rattle.rowmodel.specs.declared.StoreFault.TheVariants.{Place}
use Rattle.rowmodel.proofs.Refusals.{err_at, ok_at, none_at_ok}
use Rattle.slotstore.proofs.Unmet.{row_left}
use Rattle.slotstore.proofs.store.SlotStore.slot_of.Goals as goal

pub returns-then-place-self-clause-result : goal.returns-then-place-self-clause-result
returns-then-place-self-clause-result c =
    let checked = c.in_ok-check_used.ensures in
    err_at _ _ _ (row_left c.args.self.now c.args.number checked.found (none_at_ok _ _ _ checked.result) c.args.place ∙ ap (λ b. cond b None (Some Place)) (le-ltb _ _ (omega arith)))

pub returns-clause-result : goal.returns-clause-result
returns-clause-result c =
    let checked = c.in_ok-check_used.ensures in
    ok_at _ _ _ (row_left c.args.self.now c.args.number checked.found (none_at_ok _ _ _ checked.result) c.args.place ∙ ap (λ b. cond b None (Some Place)) (lt-ltb _ _ (omega arith))) c.reach.ensures.result
