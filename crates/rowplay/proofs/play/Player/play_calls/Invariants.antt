use Rattle.std.proofs.Common.{◌≤◌, length}
use Rattle.rowplay.proofs.play.Player.play_calls.Given as goal

abbrev pub invariant-loop-text : goal.invariant-loop-text
invariant-loop-text g l = length l.self.lines.now ≤ length l.fn.self.lines.now

-- each turn takes a line
abbrev pub decreases-loop-text : goal.decreases-loop-text
decreases-loop-text g l = length l.self.lines.now
