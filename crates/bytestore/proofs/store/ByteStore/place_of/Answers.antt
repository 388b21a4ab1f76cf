use Rattle.std.proofs.Common.{◌∙◌, arith}
use Rattle.std.proofs.lemmas.Bool.{cond-true, cond-false}
use Rattle.rowmodel.proofs.Refusals.{err_at, ok_at}
use Rattle.bytestore.proofs.Stores.{used_at, place_at, place_past, parts}
use Rattle.bytestore.proofs.store.ByteStore.place_of.Goals as goal

pub returns-then-place-region-clause-result : goal.returns-then-place-region-clause-result
returns-then-place-region-clause-result c =
    let s = c.args.self.now in
    let t = c.args.number in
    let h = c.in_ok-region.ensures.found in
    err_at _ _ _ (cond-true _ _ _ (used_at s t h.2) ∙ cond-false _ _ _ (place_past s t h.2 c.args.place (omega (arith, parts s t c.in_ok-region.region h.0))))

pub returns-clause-result : goal.returns-clause-result
returns-clause-result c =
    let s = c.args.self.now in
    let t = c.args.number in
    let h = c.in_ok-region.ensures.found in
    let q = parts s t c.in_ok-region.region h.0 in
    ok_at _ _ _ (cond-true _ _ _ (used_at s t h.2) ∙ cond-true _ _ _ (place_at s t h.2 c.args.place (omega (arith, q)))) (omega (arith, q))
