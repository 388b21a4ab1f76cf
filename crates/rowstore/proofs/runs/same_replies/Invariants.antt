use Rattle.std.proofs.Common.{◌≡◌, List, map, take, Decides}
use Rattle.rowstore.specs.Runs.{Request, request, run, replies}
use Rattle.rowstore.specs.Session.{held_by, SameLoans}
use Rattle.rowstore.proofs.runs.same_replies.Given as goal

abbrev pub invariant-loop-call : goal.invariant-loop-call
invariant-loop-call g l =
    let h = held_by g.L.RowStore.meaning l.initial.left in
    let k = held_by g.R.RowStore.meaning l.initial.right in
    let qs : List Request = map request (take l.call-index l.calls) in
    record {
      left : held_by g.L.RowStore.meaning l.left ≡ run h qs;
      right : held_by g.R.RowStore.meaning l.right ≡ run k qs;
      told : Decides l.same (replies h qs ≡ replies k qs);
      left_same : SameLoans l.initial.left l.left;
      right_same : SameLoans l.initial.right l.right;
    }
