use Rattle.std.proofs.Common.{arith, rules}
use Rattle.cells.proofs.Writes.{cell_written, cell_kept}
use Rattle.cells.proofs.write.put_cell.Goals as goal

pub returns-clause-written : goal.returns-clause-written
returns-clause-written c = cell_written c.args.area.now c.args.place _ c.args.cell.bytes.now c.copy_from_slice.new.self c.requires (search rules)

pub returns-clause-kept : goal.returns-clause-kept
returns-clause-kept c = cell_kept c.args.area.now c.args.place _ c.args.cell.bytes.now c.copy_from_slice.new.self c.requires (search rules) (omega arith)
