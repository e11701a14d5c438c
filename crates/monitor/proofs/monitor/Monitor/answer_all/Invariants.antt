use Rattle.monitor.proofs.Playing.{Playing}
use Rattle.monitor.proofs.monitor.Monitor.answer_all.Given as goal

abbrev pub invariant-loop-i : goal.invariant-loop-i
invariant-loop-i g l = Playing g.S.Scheme l.initial.self l.calls l.initial.answers l.i l.answers l.self
