use Rattle.table.proofs.Puts.{puts}
use Rattle.table.proofs.words.puts_change_one_value.Goals as goal

pub returns : goal.returns
returns c = puts
