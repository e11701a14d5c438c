use Rattle.judging.proofs.Sequence.{sequence_rule}
use Rattle.judging.proofs.theorems.sequence_rule.Goals as goal

pub returns : goal.returns
returns c = sequence_rule
