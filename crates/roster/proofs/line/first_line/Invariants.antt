use Rattle.roster.proofs.Keeping.{Led}
use Rattle.roster.proofs.line.first_line.Given as goal

-- the bytes so far lead to the place
abbrev pub invariant-loop-i : goal.invariant-loop-i
invariant-loop-i l = Led l.text l.i l.place
