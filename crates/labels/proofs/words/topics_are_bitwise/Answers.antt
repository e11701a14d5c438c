use Rattle.labels.proofs.Bitwise.{topics_bitwise}
use Rattle.labels.proofs.words.topics_are_bitwise.Goals as goal

pub returns : goal.returns
returns c = topics_bitwise
