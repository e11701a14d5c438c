use Rattle.sheets.proofs.Meanings.{sheets_are_read}
use Rattle.sheets.proofs.meaning.sheets_are_read.Goals as goal

pub returns : goal.returns
returns c = sheets_are_read
