use Rattle.std.proofs.Common.{◌≡◌}
use Rattle.labels.specs.Bits.{bits_where}
use Rattle.labels.specs.Schemes.{bars_another}
use Rattle.labels.proofs.house.bars.Given as goal

-- the bits below the place are those that count
abbrev pub invariant-loop-place : goal.invariant-loop-place
invariant-loop-place l = l.mask ≡ bits_where l.place (bars_another l.principals)
