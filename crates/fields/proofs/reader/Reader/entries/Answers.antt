use Rattle.std.proofs.Common.{rules, sym, ap, ◌∙◌, arith}
use Rattle.fields.specs.Reader.{got}
use Rattle.fields.specs.Entries.{names}
use Rattle.fields.specs.Names.{entry_at}
use Rattle.fields.proofs.Listing.{entries_all, entries_by}
use Rattle.fields.proofs.reader.Reader.entries.Goals as goal

pub returns-in_err-entry : goal.returns-in_err-entry
returns-in_err-entry c =
    let s = c.args.self.now in
    let e = c.args.kind in
    let same = c.loop-i.invariant.same in
    let by = sym c.loop-i.invariant.read ∙ entries_by e s.field.now s.at c.loop-i.self.at c.args.count c.loop-i.i _ c.loop-i-test.true
    (ap (λ f. entry_at e (names e f s.at c.loop-i.i) f c.loop-i.self.at) (sym same) ∙ c.in_err-entry.ensures.0) in
    let kept = c.in_err-entry.ensures.1 ∙ same in
    search rules

pub loop-i-preserved : goal.loop-i-preserved
loop-i-preserved c =
    let s = c.args.self.now in
    let e = c.args.kind in
    let same = c.loop-i.invariant.same in
    record {
      read = sym (entries_by e s.field.now s.at c.loop-i.self.at c.args.count c.loop-i.i (got 0 c.entry.new.self.at) c.loop-i-test.true
          (ap (λ f. entry_at e (names e f s.at c.loop-i.i) f c.loop-i.self.at) (sym same) ∙ c.in_ok-entry.ensures.0)) ∙ c.loop-i.invariant.read;
      same = c.in_ok-entry.ensures.1 ∙ same;
    }

pub returns : goal.returns
returns c =
    let s = c.args.self.now in
    (sym c.loop-i.invariant.read ∙ entries_all c.args.kind s.field.now s.at c.loop-i.self.at c.args.count c.loop-i.i c.loop-i-test.false (omega arith), c.loop-i.invariant.same, tt)
