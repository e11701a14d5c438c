use Rattle.running.proofs.Turning.{loops_unfold}
use Rattle.running.proofs.laws.loops_unfold.Goals as goal

pub returns : goal.returns
returns c = loops_unfold
