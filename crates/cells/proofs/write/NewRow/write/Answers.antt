use Rattle.std.proofs.Common.{◌+◌, length, sym, refl, ap, ◌∙◌, arith}
use Rattle.cells.proofs.Forms.{round_trip}
use Rattle.cells.proofs.Writes.{measured_is, bytes_more, bytes_end, length_more, row_begun, row_more, row_done, past_more}
use Rattle.cells.proofs.write.NewRow.write.Goals as goal

pub returns-in_err-n-clause-lawful : goal.returns-in_err-n-clause-lawful
returns-in_err-n-clause-lawful c = round_trip

pub returns-then-n-area-clause-lawful : goal.returns-then-n-area-clause-lawful
returns-then-n-area-clause-lawful c = round_trip

pub loop-column-init : goal.loop-column-init
loop-column-init c =
    let row = c.args.self.now in
    let n = measured_is row.command.now row.old.now row.sources.now _ (sym c.measure.ensures ∙ c.in_ok-n.was) in
    record {
      written = row_begun row.command.now row.old.now row.sources.now c.args.area.now (omega arith);
      kept = refl;
      left = omega arith;
    }

pub loop-column-preserved : goal.loop-column-preserved
loop-column-preserved c =
    let row = c.args.self.now in
    let cell = c.cell.result.bytes.now in
    let next = bytes_more row.command.now row.old.now row.sources.now c.loop-column.column _ cell c.loop-column-test.true c.cell.ensures in
    let more = length_more row.command.now row.old.now row.sources.now c.loop-column.column _ cell c.loop-column-test.true c.cell.ensures in
    record {
      written = row_more _ cell _ _ _ _ c.loop-column.invariant.written next c.put_cell-end.ensures.written;
      kept = past_more c.loop-column.end (1 + length cell) c.put_cell-end.result _ c.loop-column.area c.put_cell-end.new.area (omega arith) c.put_cell-end.ensures.kept c.loop-column.invariant.kept;
      left = omega arith;
    }

pub returns-clause-after : goal.returns-clause-after
returns-clause-after c =
    let row = c.args.self.now in
    let n = measured_is row.command.now row.old.now row.sources.now _ (sym c.measure.ensures ∙ c.in_ok-n.was) in
    let none = bytes_end row.command.now row.old.now row.sources.now c.loop-column.column c.loop-column-test.false in
    row_done c.loop-column.end _ _ c.args.area.now c.loop-column.area _ _ c.loop-column.invariant.written none c.loop-column.invariant.kept (omega (arith, ap length none)) (omega arith)

pub returns-clause-lawful : goal.returns-clause-lawful
returns-clause-lawful c = round_trip
