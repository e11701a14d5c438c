use Rattle.numerals.proofs.Numbers.{stands}
use Rattle.numerals.proofs.numeral.numbers_stand.Goals as goal

pub returns : goal.returns
returns c = stands
