use Rattle.labels.proofs.InWords.{cap_in_words}
use Rattle.labels.proofs.words.cap_in_words.Goals as goal

pub returns : goal.returns
returns c = cap_in_words
