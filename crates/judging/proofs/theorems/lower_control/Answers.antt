use Rattle.judging.proofs.OrderAlone.{lower_control}
use Rattle.judging.proofs.theorems.lower_control.Goals as goal

pub returns : goal.returns
returns c = lower_control
