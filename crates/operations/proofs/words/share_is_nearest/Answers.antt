use Rattle.std.proofs.Common.{refl}
use Rattle.std.specs.Int.{int_wrap}
use Rattle.operations.proofs.Ranges.{to_fits}
use Rattle.operations.proofs.Rounding.{shared_nearest}
use Rattle.operations.proofs.words.share_is_nearest.Goals as goal

pub returns : goal.returns
unfolding int_wrap
returns c =
    record {
      nearest = λ a b u v some corner. shared_nearest a b (to_fits a u) (to_fits b v) some corner;
      by_zero = λ a. refl;
      out_of_range = refl;
    }
