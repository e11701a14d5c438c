use Rattle.std.proofs.Common.{sym, ◌∙◌, w32}
use Rattle.std.proofs.lemmas.Int.{to_z-of_z}
use Rattle.operations.proofs.Shares.{of_same_signs, of_other_signs}
use Rattle.operations.proofs.share.share.Goals as goal

pub returns-then-alike : goal.returns-then-alike
returns-then-alike c =
    to_z-of_z w32 _ (record { sfits = c.cast_signed-size.type_inv }) ∙ c.cast_signed-size.ensures
    ∙ of_same_signs _ _ c.ranges.first c.ranges.second c.if-second-eq0.false _ _ _ c.unsigned_abs.ensures.value c.unsigned_abs-2.ensures.value
    c.nearest.ensures.value c.nearest.type_inv (sym c.alike.ensures ∙ c.if-alike.true)

pub returns-else-alike : goal.returns-else-alike
returns-else-alike c =
    to_z-of_z w32 _ (record { sfits = c.wrapping_neg.type_inv }) ∙ c.wrapping_neg.ensures
    ∙ of_other_signs _ _ c.ranges.first c.ranges.second c.if-second-eq0.false _ _ _ c.unsigned_abs.ensures.value c.unsigned_abs-2.ensures.value
    c.nearest.ensures.value c.nearest.type_inv c.cast_signed-size.result c.cast_signed-size.ensures (sym c.alike.ensures ∙ c.if-alike.false)
