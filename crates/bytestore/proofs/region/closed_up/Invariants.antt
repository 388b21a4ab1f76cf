use Rattle.std.proofs.Common.{◌≡◌, ◌++◌, map, length, take, drop}
use Rattle.bytestore.specs.Region.{lowered}
use Rattle.bytestore.proofs.region.closed_up.Given as goal

abbrev pub invariant-loop-region : goal.invariant-loop-region
invariant-loop-region l = (length l.region-items ≡ 16) × (length l.initial.region-items ≡ 16) × (l.region-items ≡ map (lowered l.gone) (take l.region-index l.initial.region-items) ++ drop l.region-index l.initial.region-items)
