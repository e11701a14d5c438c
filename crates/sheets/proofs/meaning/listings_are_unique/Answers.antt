use Rattle.sheets.proofs.Parses.{listings_are_unique}
use Rattle.sheets.proofs.meaning.listings_are_unique.Goals as goal

pub returns : goal.returns
returns c = listings_are_unique
