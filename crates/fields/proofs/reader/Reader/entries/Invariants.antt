use Rattle.std.proofs.Common.{◌≡◌, ◌-◌}
use Rattle.fields.specs.Entries.{entries_at}
use Rattle.fields.proofs.reader.Reader.entries.Given as goal

abbrev pub invariant-loop-i : goal.invariant-loop-i
invariant-loop-i l = record {
  read : entries_at l.kind l.initial.self.field.now l.from l.i l.self.at (l.count - l.i) ≡ entries_at l.kind l.initial.self.field.now l.from 0 l.from l.count;
  same : l.self.field.now ≡ l.initial.self.field.now;
}
