use Rattle.labels.proofs.InWords.{pair_in_words}
use Rattle.labels.proofs.words.pair_in_words.Goals as goal

pub returns : goal.returns
returns c = pair_in_words
