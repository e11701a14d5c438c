use Rattle.running.proofs.Keeping.{runs_keep}
use Rattle.running.proofs.laws.runs_keep_labels_and_turns.Goals as goal

pub returns : goal.returns
returns c = runs_keep
