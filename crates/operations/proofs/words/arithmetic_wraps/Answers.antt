use Rattle.operations.proofs.Ranges.{brought_in}
use Rattle.operations.proofs.words.arithmetic_wraps.Goals as goal

pub returns : goal.returns
returns c = record { sum = λ a b. brought_in _; difference = λ a b. brought_in _; product = λ a b. brought_in _ }
