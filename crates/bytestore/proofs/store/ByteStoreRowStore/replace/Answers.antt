use Rattle.std.proofs.Common.{◌≡◌, ℕ, List, ◌++◌, None, ◌∙◌}
use Rattle.rowmodel.specs.Needs.{unmet, used_number, existing_place, allowed_row, row_unmet, replace_unmet}
use Rattle.rowmodel.proofs.Refusals.{new_at, none_at_ok, value_at_ok}
use Rattle.rowmodel.proofs.Fronts.{front_met}
use Rattle.bytestore.specs.declared.store.ByteStore.{ByteStore}
use Rattle.bytestore.proofs.Stores.{meaning_of, row_fits}
use Rattle.bytestore.proofs.After.{replace_after}
use Rattle.bytestore.proofs.store.ByteStoreRowStore.replace.Goals as goal

met : (s : ByteStore) (t k : ℕ) (row : List ℕ) → row_unmet (meaning_of s) t k ≡ None → unmet (allowed_row row) ≡ None → replace_unmet (meaning_of s) t k row ≡ None
met s t k row placed allowed = front_met (used_number (meaning_of s) t ++ existing_place (meaning_of s) t k) (allowed_row row) placed ∙ allowed

pub store-requires : goal.store-requires
store-requires c =
    let h = c.in_ok-at.ensures.found in
    (row_fits c.args.self.now c.args.number h.2 c.args.place _ h.3 h.0).0

pub invariant_of-self : goal.invariant_of-self
invariant_of-self c =
    let s = c.args.self.now in
    let t = c.args.number in
    let h = c.in_ok-at.ensures in
    let o = met s t c.args.place c.args.row.now (none_at_ok _ _ _ h.result) (none_at_ok _ _ _ c.in_ok-row.ensures) in
    (replace_after s t c.store.new.self.bytes.now c.store.ensures.len _ c.args.row.now (c.store.ensures.here ∙ value_at_ok _ _ _ c.in_ok-row.ensures) c.store.ensures.others c.args.place o h.found.0).owed

pub returns-clause-after : goal.returns-clause-after
returns-clause-after c =
    let s = c.args.self.now in
    let t = c.args.number in
    let h = c.in_ok-at.ensures in
    let o = met s t c.args.place c.args.row.now (none_at_ok _ _ _ h.result) (none_at_ok _ _ _ c.in_ok-row.ensures) in
    let e = (replace_after s t c.store.new.self.bytes.now c.store.ensures.len _ c.args.row.now (c.store.ensures.here ∙ value_at_ok _ _ _ c.in_ok-row.ensures) c.store.ensures.others c.args.place o h.found.0).means in
    new_at _ _ _ _ o e
