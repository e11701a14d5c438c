use Rattle.labels.proofs.InWords.{ladder_in_words}
use Rattle.labels.proofs.words.ladder_in_words.Goals as goal

pub returns : goal.returns
returns c = ladder_in_words
