use Rattle.sheets.proofs.Meanings.{sheets_are_refused}
use Rattle.sheets.proofs.meaning.sheets_are_refused.Goals as goal

pub returns : goal.returns
returns c = sheets_are_refused
