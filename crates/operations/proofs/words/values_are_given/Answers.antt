use Rattle.std.proofs.Common.{Bool, true, false, cond, ℤ, pos, arith}
use lib.Signed.{lt_z}
use Rattle.operations.specs.Operations.{equal}
use Rattle.operations.specs.Words.{Value, GivesValues}
use Rattle.operations.specs.declared.operation.Operation.TheVariants.{Sum, Difference, Product, Share, Equal, Less, Differing, Lesser}
use Rattle.operations.proofs.Bitwise.{at_most_32}
use Rattle.operations.proofs.Ranges.{brought_in, small, to_fits}
use Rattle.operations.proofs.words.values_are_given.Goals as goal

either : (t : Bool) (x y : ℤ) → Value x → Value y → Value (cond t x y)
either true x y u v = u
either false x y u v = v

gives : GivesValues
gives Sum a b u v = (brought_in _).value
gives Difference a b u v = (brought_in _).value
gives Product a b u v = (brought_in _).value
gives Share a b u v = either (equal b (pos 0)) _ _ (small 0 (omega arith)) (brought_in _).value
gives Equal a b u v = either (equal a b) _ _ (small 1 (omega arith)) (small 0 (omega arith))
gives Less a b u v = either (lt_z a b) _ _ (small 1 (omega arith)) (small 0 (omega arith))
gives Differing a b u v =
    small _ (omega (arith, at_most_32 a b (to_fits a u) (to_fits b v)))
gives Lesser a b u v = either (lt_z b a) _ _ v u

pub returns : goal.returns
returns c = gives
