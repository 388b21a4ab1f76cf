use Rattle.std.proofs.Common.{◌++◌, map, get_or, take, set, ap, ◌∙◌, arith}
use Rattle.std.proofs.lemmas.List.{length-set, take_all, drop_all, append-nil, get_or_default}
use Rattle.std.proofs.lemmas.List.Edits.{map_over_more}
use Rattle.bytestore.specs.Region.{none, lowered}
use Rattle.bytestore.proofs.region.closed_up.Goals as goal

pub loop-region-preserved : goal.loop-region-preserved
loop-region-preserved c =
    let ys = c.loop-region.region-items in
    let i = c.loop-region.region-index in (
      length-set ys i c.lowered.result ∙ c.loop-region.invariant.0,
      c.loop-region.invariant.1,
      ap (set ys i) c.lowered.ensures
          ∙ map_over_more (lowered c.args.gone) c.args.regions ys i (get_or ys i none) (omega (arith, c.loop-region.invariant.1)) c.loop-region.invariant.2 (get_or_default ys i none (get_or ys i none) (omega (arith, c.loop-region.invariant.0))),
    )

pub returns : goal.returns
returns c =
    let xs = c.args.regions in
    let i = c.loop-region.region-index in
    c.loop-region.invariant.2
    ∙ ap (λ zs. map (lowered c.args.gone) (take i xs) ++ zs) (drop_all i xs (omega (arith, c.loop-region.invariant.1)))
    ∙ append-nil (map (lowered c.args.gone) (take i xs))
    ∙ ap (map (lowered c.args.gone)) (take_all i xs (omega (arith, c.loop-region.invariant.1)))
