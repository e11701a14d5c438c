use Rattle.noninterference.proofs.examples_stand.Goals as goal
use Rattle.noninterference.proofs.Examples.{examples}

pub returns : goal.returns
returns c = examples
