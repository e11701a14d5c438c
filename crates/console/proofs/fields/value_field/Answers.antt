use Rattle.std.proofs.Common.{◌≡◌, ℕ, ◌-◌, ◌∷◌, length, get_or, take, drop, sym, ap, ◌∙◌, arith}
use Rattle.std.proofs.lemmas.Bool.{ltb-false}
use Rattle.console.specs.Reading.{value_in}
use Rattle.console.proofs.Cutting.{one_and_rest}
use Rattle.console.proofs.fields.value_field.Goals as goal

pub returns-in-45 : goal.returns-in-45
returns-in-45 c =
    let field = c.args.field.now in
    let minus : get_or field 0 0 ≡ 45 = omega arith in
    let cut = one_and_rest field (omega (arith, ltb-false)) ∙ ap (λ (b : ℕ). b ∷ take (length field - 1) (drop 1 field)) minus in
    c.negative.ensures ∙ sym (ap value_in cut)
