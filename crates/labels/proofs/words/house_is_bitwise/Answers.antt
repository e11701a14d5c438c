use Rattle.labels.proofs.Bitwise.{house_bitwise}
use Rattle.labels.proofs.words.house_is_bitwise.Goals as goal

pub returns : goal.returns
returns c = house_bitwise
