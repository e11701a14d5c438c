use Rattle.noninterference.proofs.runs_do_not_interfere.Goals as goal
use Rattle.noninterference.proofs.Noninterference.{noninterference}

pub returns : goal.returns
returns c = noninterference
