use Rattle.labels.specs.Masks.{shifted_ones}
use Rattle.labels.proofs.topics.lowest.Goals as goal

pub returns : goal.returns
returns c = shifted_ones c.args.topics c.requires.1
