use Rattle.rows.proofs.Acceptance as acceptance
use Rattle.rows.proofs.reader.rows_are_read.Goals as goal

pub returns : goal.returns
returns c = acceptance.rows_are_read
