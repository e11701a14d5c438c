use Rattle.std.proofs.Common.{pos, length-take, arith}
use Rattle.monitor.specs.declared.call.Call.TheVariants.{Lay}
use Rattle.monitor.proofs.Playing.{one_more}
use Rattle.monitor.proofs.monitor.Monitor.answer_all.Goals as goal

pub loop-i-preserved : goal.loop-i-preserved
loop-i-preserved g c =
    let one = c.answer.ensures in
    one_more g.S.Scheme c.args.self.now c.args.calls.now c.args.answers.now _ c.loop-i.i c.loop-i.answers c.loop-i.self c.loop-i.invariant (Lay 0 0 (pos 0)) c.answer.result c.answer.new.self one.stepped (omega arith) (grind (arith, length-take)) one.kept
