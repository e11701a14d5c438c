use Rattle.sheets.proofs.Parses.{parses}
use Rattle.sheets.proofs.meaning.listings_are_parsed.Goals as goal

pub returns : goal.returns
returns c = parses
