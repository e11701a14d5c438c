use Rattle.std.proofs.Common.{refl, ap}
use Rattle.console.specs.Replies.{reply_line}
use Rattle.console.proofs.Clips.{to_call, to_none}
use Rattle.console.proofs.window.Window.reply.Goals as goal

pub returns-in-Some : goal.returns-in-Some
returns-in-Some c = to_call c.args.line.now c.in-Some.ensures c.make.ensures (ap reply_line c.into.ensures)

pub returns-in-None : goal.returns-in-None
returns-in-None c = to_none c.args.line.now c.in-None.ensures refl
