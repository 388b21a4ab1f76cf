use Rattle.std.proofs.Common.{◌+◌, ◌*◌, get_or, take, drop, refl, ap, ◌∙◌, arith}
use Rattle.bytestore.proofs.Bytes.{length-row_in, row_in_part}
use Rattle.bytestore.proofs.memory.Memory.row.Goals as goal

pub slice_bounds-result-end : goal.slice_bounds-result-end
slice_bounds-result-end c = omega (arith, length-row_in c.args.self.now.bytes.now c.args.place)

pub returns : goal.returns
returns c =
    let bs = c.args.self.now.bytes.now in
    let p = c.args.place in
    ap (λ n. take n (drop (241 * p + 1) bs)) (omega arith)
    ∙ row_in_part bs p (get_or bs (241 * p) 0) refl (omega (arith, length-row_in bs p))
