use Rattle.std.proofs.Common.{arith}
use Rattle.labels.specs.Pairs.{all_low}
use Rattle.labels.proofs.pair.split.Goals as goal

pub returns-then-width-ge64 : goal.returns-then-width-ge64
returns-then-width-ge64 c = all_low c.args.width c.args.code (omega arith) (omega arith)
