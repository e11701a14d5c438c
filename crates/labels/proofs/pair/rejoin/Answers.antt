use Rattle.labels.specs.Pairs.{shifted_or}
use Rattle.labels.proofs.pair.rejoin.Goals as goal

pub returns : goal.returns
returns c = shifted_or c.args.width c.args.low c.args.high c.requires.0 c.requires.1.0 c.requires.1.1
