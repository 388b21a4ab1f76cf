use Rattle.std.proofs.Common.{◌≡◌, ℕ, ◌<◌, List, ◌++◌, None, refl, ◌∙◌, arith}
use Rattle.std.proofs.lemmas.Bool.{cond-true, cond-false}
use Rattle.rowmodel.specs.Needs.{unmet, used_number, allowed_row, below_limit, drop_unmet, append_unmet}
use Rattle.rowmodel.proofs.Refusals.{err_at, old_at, ok_at, new_at, none_at_ok, value_at_ok}
use Rattle.rowmodel.proofs.Fronts.{front_met}
use Rattle.bytestore.specs.declared.region.Region.{Region}
use Rattle.bytestore.specs.declared.store.ByteStore.{ByteStore}
use Rattle.bytestore.proofs.Stores.{region_of, meaning_of, room_at, full_at, place_fits, parts}
use Rattle.bytestore.proofs.After.{append_after}
use Rattle.bytestore.proofs.store.ByteStoreRowStore.append.Goals as goal

-- only the limit is left to test
last_need : (s : ByteStore) (t : ℕ) (row : List ℕ) → drop_unmet (meaning_of s) t ≡ None → unmet (allowed_row row) ≡ None → append_unmet (meaning_of s) t row ≡ unmet (below_limit (meaning_of s) t)
last_need s t row used allowed =
    front_met (used_number (meaning_of s) t) (allowed_row row ++ below_limit (meaning_of s) t) used ∙ front_met (allowed_row row) (below_limit (meaning_of s) t) allowed

met : (s : ByteStore) (t : ℕ) (row : List ℕ) (r : Region) → drop_unmet (meaning_of s) t ≡ None → unmet (allowed_row row) ≡ None → r ≡ region_of s t → r.count < r.limit → append_unmet (meaning_of s) t row ≡ None
met s t row r used allowed e room =
    let q = parts s t r e in
    last_need s t row used allowed ∙ cond-true _ _ _ (room_at s t (omega (arith, q)) (omega (arith, q)))

pub returns-then-region : goal.returns-then-region
returns-then-region c =
    let s = c.args.self.now in
    let t = c.args.number in
    let h = c.in_ok-region.ensures in
    let q = parts s t c.in_ok-region.region h.found.0 in
    let o = last_need s t c.args.row.now (none_at_ok _ _ _ h.result) (none_at_ok _ _ _ c.in_ok-row.ensures) ∙ cond-false _ _ _ (full_at s t h.found.2 (omega (arith, q))) in
    record { result = err_at _ _ _ o; after = old_at _ _ _ _ o }

pub store-requires : goal.store-requires
store-requires c =
    let s = c.args.self.now in
    let t = c.args.number in
    let h = c.in_ok-region.ensures in
    let q = parts s t c.in_ok-region.region h.found.0 in
    omega (arith, q, place_fits s t (region_of s t).count (omega (arith, q)))

pub invariant_of-self : goal.invariant_of-self
invariant_of-self c =
    let s = c.args.self.now in
    let t = c.args.number in
    let h = c.in_ok-region.ensures in
    let q = parts s t c.in_ok-region.region h.found.0 in
    let o = met s t c.args.row.now c.in_ok-region.region (none_at_ok _ _ _ h.result) (none_at_ok _ _ _ c.in_ok-row.ensures) h.found.0 c.if-region.false in
    (append_after s t c.store.new.self.bytes.now c.store.ensures.len _ c.args.row.now (c.store.ensures.here ∙ value_at_ok _ _ _ c.in_ok-row.ensures) c.store.ensures.others _ o (omega (arith, q)) (omega (arith, q))).owed

pub returns : goal.returns
returns c =
    let s = c.args.self.now in
    let t = c.args.number in
    let h = c.in_ok-region.ensures in
    let q = parts s t c.in_ok-region.region h.found.0 in
    let o = met s t c.args.row.now c.in_ok-region.region (none_at_ok _ _ _ h.result) (none_at_ok _ _ _ c.in_ok-row.ensures) h.found.0 c.if-region.false in
    let e = (append_after s t c.store.new.self.bytes.now c.store.ensures.len _ c.args.row.now (c.store.ensures.here ∙ value_at_ok _ _ _ c.in_ok-row.ensures) c.store.ensures.others _ o (omega (arith, q)) (omega (arith, q))).means in
    record { result = ok_at _ _ _ o refl; after = new_at _ _ _ _ o e }
