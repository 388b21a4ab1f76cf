use Rattle.std.proofs.Common.{[], get_or, sym, ap, ◌∙◌}
use Rattle.rowmodel.specs.Meaning.{row_at}
use Rattle.rowmodel.specs.Needs.{row_unmet}
use Rattle.rowmodel.proofs.Refusals.{ok_at, none_at_ok, value_at_ok}
use Rattle.slotstore.specs.Slot.{contents, links}
use Rattle.slotstore.specs.Chain.{spot}
use Rattle.slotstore.proofs.Bounds.{meaning_of, row_here}
use Rattle.slotstore.proofs.store.SlotStoreRowStore.row.Goals as goal

pub returns : goal.returns
returns c =
    let s = c.args.self.now in
    let t = c.args.number in
    let k = c.args.place in
    let ss = s.memory.slots.now in
    let slot = c.in_ok-found.found in
    let e = c.in_ok-found.ensures in
    ok_at (row_unmet (meaning_of s) t k) c.read.result.now (row_at (meaning_of s) t k) (none_at_ok (row_unmet (meaning_of s) t k) slot (spot (links ss) s.chains t k) e.result)
    (c.read.ensures ∙ ap (λ i. get_or (contents ss) i []) (value_at_ok (row_unmet (meaning_of s) t k) slot (spot (links ss) s.chains t k) e.result)
    ∙ sym (row_here s t k e.found.2 e.found.1))
