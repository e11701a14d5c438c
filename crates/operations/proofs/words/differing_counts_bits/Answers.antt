use Rattle.std.proofs.Common.{pos, ap}
use Rattle.operations.proofs.Bitwise.{counts}
use Rattle.operations.proofs.Ranges.{to_fits}
use Rattle.operations.proofs.words.differing_counts_bits.Goals as goal

pub returns : goal.returns
returns c a b u v = ap pos (counts a b (to_fits a u) (to_fits b v))
