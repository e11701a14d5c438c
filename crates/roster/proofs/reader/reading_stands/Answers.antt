use Rattle.roster.proofs.Exactly.{exact}
use Rattle.roster.proofs.reader.reading_stands.Goals as goal

pub returns : goal.returns
returns c = exact
