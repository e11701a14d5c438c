use Rattle.rows.proofs.Refusals as refusals
use Rattle.rows.proofs.reader.rows_are_refused.Goals as goal

pub returns : goal.returns
returns c = refusals.rows_are_refused
