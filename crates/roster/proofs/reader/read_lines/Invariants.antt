use Rattle.std.proofs.Common.{length}
use Rattle.roster.proofs.Keeping.{Going}
use Rattle.roster.proofs.reader.read_lines.Given as goal

abbrev pub invariant-loop-left : goal.invariant-loop-left
invariant-loop-left l = Going l.width l.text l.table l.line l.left

abbrev pub decreases-loop-left : goal.decreases-loop-left
decreases-loop-left l = length l.left
