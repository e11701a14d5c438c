use Rattle.std.proofs.Common.{pos, ap, ◌∙◌, w32, rules}
use Rattle.std.proofs.lemmas.Int.{wraps, to_z_pos}
use Rattle.operations.proofs.Bitwise.{of_bits, of_bits_small}
use Rattle.operations.proofs.operation.Operation.apply.Goals as goal

pub returns-in-Sum : goal.returns-in-Sum
returns-in-Sum c = search (rules, wraps)

pub returns-in-Difference : goal.returns-in-Difference
returns-in-Difference c = search (rules, wraps)

pub overflow_cast-result : goal.overflow_cast-result
overflow_cast-result c =
    record { sfits = of_bits_small _ _ c.ranges.first c.ranges.second _ _ _ c.cast_unsigned.ensures c.cast_unsigned-in-Differing.ensures c.differing.ensures }

pub returns-in-Differing : goal.returns-in-Differing
returns-in-Differing c =
    let is = of_bits _ _ c.ranges.first c.ranges.second _ _ _ c.cast_unsigned.ensures c.cast_unsigned-in-Differing.ensures c.differing.ensures in
    rw c.in-Differing.is (to_z_pos w32 _ (overflow_cast-result c).sfits ∙ ap pos is)
