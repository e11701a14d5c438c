use Rattle.judging.proofs.Exactly.{judged_exactly}
use Rattle.judging.proofs.theorems.judged_exactly.Goals as goal

pub returns : goal.returns
returns c = judged_exactly
