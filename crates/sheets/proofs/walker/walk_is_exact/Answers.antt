use Rattle.sheets.proofs.Walks.{exact}
use Rattle.sheets.proofs.walker.walk_is_exact.Goals as goal

pub returns : goal.returns
returns c = exact
