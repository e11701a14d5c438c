use Rattle.noninterference.proofs.calls_are_made_one_by_one.Goals as goal
use Rattle.noninterference.proofs.Calls.{one_by_one}

pub returns : goal.returns
returns c = one_by_one
