use Rattle.judging.proofs.OrderAlone.{order_alone}
use Rattle.judging.proofs.theorems.order_alone.Goals as goal

pub returns : goal.returns
returns c = order_alone
