use Rattle.std.proofs.Common.{refl}
use Rattle.console.proofs.Stepping.{at_window}
use Rattle.console.proofs.window.Window.make.Goals as goal

pub returns : goal.returns
returns c = at_window c.args.self.now.topics c.args.self.now.levels refl c.answer.ensures.stepped
