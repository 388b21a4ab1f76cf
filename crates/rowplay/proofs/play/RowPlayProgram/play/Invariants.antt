use Rattle.std.proofs.Common.{◌+◌, length}
use Rattle.std.specs.Option.{option_map_or}
use Rattle.rowplay.proofs.play.RowPlayProgram.play.Given as goal

-- each turn takes a line with new stores, or is the last one
abbrev pub decreases-loop-next : goal.decreases-loop-next
decreases-loop-next g l = option_map_or (λ rows. length l.player.lines.now + 1) l.next 0
