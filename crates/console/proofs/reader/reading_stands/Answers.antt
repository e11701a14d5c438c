use Rattle.console.proofs.Reading.{reading}
use Rattle.console.proofs.reader.reading_stands.Goals as goal

pub returns : goal.returns
returns c = reading
