use Rattle.std.proofs.Common.{◌≡◌, Some, sym, ap, ◌∙◌, rules}
use Rattle.rowmodel.specs.Meaning.{used}
use Rattle.rowmodel.specs.Calls.{size_of}
use Rattle.slotstore.specs.Chain.{chain_at, InUse}
use Rattle.slotstore.specs.Store.{rows_along}
use Rattle.slotstore.proofs.Tables.{used_here, length-along}
use Rattle.slotstore.proofs.store.SlotStoreRowStore.table_size.Goals as goal

pub returns : goal.returns
returns c =
    let s = c.args.self.now in
    let t = c.args.number in
    let u : InUse s.chains t = search rules in
    let e : Some (record { limit = (chain_at s.chains t).size; rows = (chain_at s.chains t).count }) ≡ size_of (used (chain_at s.chains t).size (rows_along s.memory.slots.now s.chains t)) =
    ap (λ n. Some (record { limit = (chain_at s.chains t).size; rows = n })) (sym (length-along s.memory.slots.now s.chains t)) in
    e ∙ ap size_of (sym (used_here s.memory.slots.now s.chains t u.below u.some))
