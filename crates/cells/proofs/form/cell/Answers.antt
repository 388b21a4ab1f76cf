use Rattle.std.proofs.Common.{◌≡◌, zero, ◌+◌, ◌-◌, ◌<◌, ◌≤◌, length, get_or, drop, ap, ◌∙◌, arith}
use Rattle.std.proofs.lemmas.Grind.{common_steps}
use Rattle.std.proofs.lemmas.List.{drop_all}
use Rattle.cells.specs.Form.{cell_from}
use Rattle.cells.proofs.Forms.{behind_at, cell_on, cell_past, cells_read}
use Rattle.cells.proofs.form.cell.Goals as goal
use Rattle.cells.proofs.form.cell.Goals.{else-loop-test, then-loop-test+in_default}

pub loop-preserved : goal.loop-preserved
loop-preserved c =
    let row = c.args.row.now in
    let p = c.loop.place in
    let l : p < length row = grind (arith, common_steps) in
    let v : c.from.result ≡ get_or row p 0 = grind (arith, common_steps) in
    cell_on (drop p row) (drop (p + (1 + c.from.result)) row) c.args.column c.loop.counter c.loop-test.true (ap (λ n. drop (p + (1 + n)) row) v ∙ behind_at row p l) ∙ c.loop.invariant

pub returns-clause-result : goal.returns-clause-result
returns-clause-result c =
    let row = c.args.row.now in
    let from = cell_from (drop c.loop.place row) in
    c.string_at.ensures ∙ elim c.loop-test.branch [
      | else-loop-test w ↦ (let e : zero ≡ c.args.column - c.loop.counter = omega (arith, w.loop-test.false) in ap from e)
      | then-loop-test+in_default w ↦ (let past : length row ≤ c.loop.place = grind (arith, common_steps) in cell_past (drop c.loop.place row) (c.args.column - c.loop.counter) (drop_all c.loop.place row past))
    ] ∙ c.loop.invariant

pub returns-clause-lawful : goal.returns-clause-lawful
returns-clause-lawful c = cells_read
