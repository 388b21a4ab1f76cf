use Rattle.std.proofs.Common.{◌≡◌, ◌+◌, ◌++◌, length, take, drop}
use Rattle.cells.specs.Form.{encoded}
use Rattle.cells.specs.Source.{new_cells}
use Rattle.cells.proofs.Writes.{bytes_on}
use Rattle.cells.proofs.write.NewRow.write.Given as goal

abbrev pub invariant-loop-column : goal.invariant-loop-column
invariant-loop-column l = record {
  written : take l.end l.area ++ bytes_on l.self.command.now l.self.old.now l.self.sources.now l.column ≡ encoded (new_cells l.self.command.now l.self.old.now l.self.sources.now);
  kept : drop l.end l.area ≡ drop l.end l.initial.area;
  left : l.end + length (bytes_on l.self.command.now l.self.old.now l.self.sources.now l.column) ≡ l.n;
}
