use Rattle.std.proofs.Common.{◌≡◌, ◌<◌, Bool, true, false, ◌&&◌, List, map, length, get_or, take, sym, refl, ap, ◌∙◌, arith, rules}
use Rattle.std.proofs.lemmas.Bool.{and_right}
use Rattle.rowstore.specs.declared.call.Call.{Call}
use Rattle.rowstore.specs.declared.call.Call.TheVariants as call
use Rattle.rowstore.specs.Both.{is_same}
use Rattle.rowstore.specs.Runs.{Request, Held, request, reply, replies}
use Rattle.rowstore.specs.Session.{held_by}
use Rattle.rowstore.proofs.Steps.{run_more, replies_more, same_push}
use Rattle.rowstore.proofs.runs.same_replies.Goals as goal
use Rattle.rowstore.proofs.runs.same_replies.Goals.{in-Differ, in_default}

-- a turn whose replies are the same leaves the flag
met : (same b : Bool) → b ≡ true → same ≡ (same && b)
met true b e = sym e
met false b e = refl

pub loop-call-preserved : goal.loop-call-preserved
loop-call-preserved g c =
    let calls = c.args.calls.now in
    let i = c.loop-call.call-index in
    let d : Call = call.Make 0 0 in
    let q : Request = request (get_or calls i d) in
    let qs : List Request = map request (take i calls) in
    let l : i < length calls = omega arith in
    let h : Held = held_by g.L.RowStore.meaning c.args.left.now in
    let k : Held = held_by g.R.RowStore.meaning c.args.right.now in
    let one : Held = held_by g.L.RowStore.meaning c.loop-call.left in
    let other : Held = held_by g.R.RowStore.meaning c.loop-call.right in
    let inv = c.loop-call.invariant in
    let both = c.perform_both.ensures in
    let same : Bool = is_same c.perform_both.result in
    let flag : c.match-perform_both.same ≡ (c.loop-call.same && same) =
    elim c.match-perform_both.branch [
      | in-Differ w ↦ w.same-is ∙ sym (and_right c.loop-call.same same (ap is_same w.in-Differ.is))
      | in_default w ↦ w.same-is ∙ met c.loop-call.same same (ap is_same w.in_default.is)
    ] in
    let left = replies_more h calls i d l one inv.left in
    let right = replies_more k calls i d l other inv.right in
    let grown = same_push (replies h qs) (replies k qs) (reply one q) (reply other q) c.loop-call.same same inv.told both.told in
    record {
      left = both.left_kept ∙ run_more h calls i d l one inv.left;
      right = both.right_kept ∙ run_more k calls i d l other inv.right;
      told = (λ t. left ∙ grown.0 (sym flag ∙ t) ∙ sym right, λ e. flag ∙ grown.1 (sym left ∙ e ∙ right));
      left_same = search rules;
      right_same = search rules;
    }
