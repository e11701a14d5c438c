use Rattle.console.proofs.Filled.{Filled}
use Rattle.console.proofs.buffered.write_answers.Given as goal

abbrev pub invariant-loop-reply : goal.invariant-loop-reply
invariant-loop-reply l = Filled l.fn.window.monitor.table l.lines l.reply-iterator.window.monitor.table l.reply-iterator.left.now l.initial.out l.out l.end
