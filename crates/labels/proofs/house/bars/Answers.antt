use Rattle.std.proofs.Common.{◌<◌, sym, refl, ◌∙◌, arith}
use Rattle.labels.specs.Bits.{bits_where}
use Rattle.labels.specs.Schemes.{bars_another}
use Rattle.labels.specs.Masks.{square_fits, one_bit_more, no_bit_more}
use Rattle.labels.proofs.house.bars.Goals as goal
use Rattle.labels.proofs.house.bars.Goals.{then-counts, else-counts}

pub loop-place-init : goal.loop-place-init
unfolding bits_where
loop-place-init c = refl

pub loop-place-preserved : goal.loop-place-preserved
loop-place-preserved c =
    let k = c.args.principals in
    let i = c.loop-place.place in
    let small : i < 64 = omega (arith, square_fits k c.requires.1) in
    elim c.if-counts.branch [
      | then-counts w ↦ w.mask-is ∙ one_bit_more i (bars_another k) c.loop-place.mask small c.loop-place.invariant (sym w.if-counts.ensures)
      | else-counts w ↦ w.mask-is ∙ c.loop-place.invariant ∙ no_bit_more i (bars_another k) (sym w.if-counts.ensures)
    ]
