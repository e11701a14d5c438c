use Rattle.console.proofs.Lining.{lines_stand}
use Rattle.console.proofs.lines.lines_stand.Goals as goal

pub returns : goal.returns
returns c = lines_stand
