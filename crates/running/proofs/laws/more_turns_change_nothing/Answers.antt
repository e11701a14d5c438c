use Rattle.running.proofs.Lengthening.{more_turns_change_nothing}
use Rattle.running.proofs.laws.more_turns_change_nothing.Goals as goal

pub returns : goal.returns
returns c = more_turns_change_nothing
