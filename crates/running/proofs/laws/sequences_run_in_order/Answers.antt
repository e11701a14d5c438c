use Rattle.running.proofs.Turning.{sequences_run_in_order}
use Rattle.running.proofs.laws.sequences_run_in_order.Goals as goal

pub returns : goal.returns
returns c = sequences_run_in_order
