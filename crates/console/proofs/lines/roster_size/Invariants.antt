use Rattle.std.proofs.Common.{◌≡◌, ◌+◌, false, drop}
use Rattle.console.proofs.Splitting.{size}
use Rattle.console.proofs.lines.roster_size.Given as goal

-- the roster's bytes from here on and those so far are all its bytes
abbrev pub invariant-loop-i : goal.invariant-loop-i
invariant-loop-i l = l.i + size l.in_line (drop l.i l.input) ≡ size false l.input
