use Rattle.std.proofs.Common.{◌≡◌, ◌-◌, drop}
use Rattle.cells.specs.Form.{cell_from, cell_at}
use Rattle.cells.proofs.form.cell.Given as goal

abbrev pub invariant-loop : goal.invariant-loop
invariant-loop l = cell_from (drop l.place l.row) (l.column - l.counter) ≡ cell_at l.row l.column
