use Rattle.noninterference.proofs.struck_calls_leave_no_trace.Goals as goal
use Rattle.noninterference.proofs.Strike.{struck}

pub returns : goal.returns
returns c = struck
