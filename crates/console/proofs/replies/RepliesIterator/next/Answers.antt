use Rattle.std.proofs.Common.{length, sym, arith}
use Rattle.std.proofs.lemmas.Bool.{eqb-false}
use Rattle.console.proofs.Following.{answered, not_ended}
use Rattle.console.proofs.replies.RepliesIterator.next.Goals as goal

pub returns-in-Some-clause-steps : goal.returns-in-Some-clause-steps
returns-in-Some-clause-steps c = answered c.args.self.now.window.monitor.table c.args.self.now.left.now _ _ c.in-Some.ensures c.reply.ensures

-- a line is for each reply
pub returns-in-Some-clause-goes : goal.returns-in-Some-clause-goes
returns-in-Some-clause-goes c =
    let lines = (answered c.args.self.now.window.monitor.table c.args.self.now.left.now _ _ c.in-Some.ensures c.reply.ensures).1 in
    record { on = λ finite. (tt, tt, omega (arith, lines)); keeps = tt; rests = λ finite. tt }

pub returns-in-None-clause-steps : goal.returns-in-None-clause-steps
returns-in-None-clause-steps c =
    let text = c.args.self.now.left.now in
    not_ended c.args.self.now.window.monitor.table text (omega (arith, eqb-false (length text) 0 (sym c.if-is_empty.ensures))) c.in-None.ensures

pub returns-in-None-clause-goes : goal.returns-in-None-clause-goes
returns-in-None-clause-goes c =
    let text = c.args.self.now.left.now in
    let lines = (not_ended c.args.self.now.window.monitor.table text (omega (arith, eqb-false (length text) 0 (sym c.if-is_empty.ensures))) c.in-None.ensures).1 in
    record { on = λ finite. (tt, tt, omega (arith, lines)); keeps = tt; rests = λ finite. tt }
