use Rattle.std.proofs.Common.{rules, tests, ◌≡◌, length, min, arith}
use Rattle.std.proofs.lemmas.Iterator.{YieldsList-from_slice, YieldsList-from_map}
use Rattle.std.proofs.lemmas.Iterator.Consumers.{YieldsList-from_enumerate, YieldsList-at, sum_by_from_yields_List}
use Rattle.std.proofs.lemmas.List.FromFn.{length-enumerate_from}
use Rattle.std.specs.List.{enumerate_from, sum_by}
use Rattle.cells.proofs.Writes.{cell_length, sum_under, measured_sum}
use Rattle.cells.proofs.write.NewRow.measure.Goals as goal

pub overflow_add-result : goal.overflow_add-result
overflow_add-result c =
    let sources = c.args.self.now.sources.now in
    let cell = cell_length c.args.self.now.command.now c.args.self.now.old.now in
    let is : c.sum-cells.result ≡ sum_by (λ p. min (cell p) 256) (enumerate_from 0 sources) =
    sum_by_from_yields_List (λ p. min (cell p) 256) (enumerate_from 0 sources) c.map.result c.sum-cells.result c.sum-cells.ensures.ran
    (YieldsList-from_map _ (λ p. min (cell p) 256) (YieldsList-at c.map.ensures.source (YieldsList-from_enumerate (YieldsList-at c.enumerate.ensures.source (YieldsList-from_slice sources c.iter.ensures.rest)) c.enumerate.ensures.count)) c.map.ensures.closure (λ x r q k. search (rules, tests))) in
    let few : length (enumerate_from 0 sources) ≡ length sources = length-enumerate_from 0 sources in
    let under = sum_under cell 256 (enumerate_from 0 sources) in
    omega arith

pub returns : goal.returns
returns c =
    let sources = c.args.self.now.sources.now in
    let cell = cell_length c.args.self.now.command.now c.args.self.now.old.now in
    let is : c.sum-cells.result ≡ sum_by cell (enumerate_from 0 sources) =
    sum_by_from_yields_List cell (enumerate_from 0 sources) c.map.result c.sum-cells.result c.sum-cells.ensures.ran
    (YieldsList-from_map _ cell (YieldsList-at c.map.ensures.source (YieldsList-from_enumerate (YieldsList-at c.enumerate.ensures.source (YieldsList-from_slice sources c.iter.ensures.rest)) c.enumerate.ensures.count)) c.map.ensures.closure (λ x r q k. search (rules, tests))) in
    measured_sum c.args.self.now.command.now c.args.self.now.old.now sources c.sum-cells.result c.if-self-gt-MOST_CELLS.false is
