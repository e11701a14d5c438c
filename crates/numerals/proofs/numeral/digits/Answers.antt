use Rattle.std.proofs.Common.{take, Err, sym, ap, ◌∙◌}
use Rattle.std.proofs.lemmas.Bool.{cond-false}
use Rattle.numerals.specs.declared.numeral.NumeralError.TheVariants.{NotANumber}
use Rattle.numerals.specs.Numerals.{all_digits, value_of, held}
use Rattle.numerals.proofs.Numbers.{value_more, no_digits, digits_more}
use Rattle.numerals.proofs.numeral.digits.Goals as goal

pub returns-then-not-digit : goal.returns-then-not-digit
returns-then-not-digit c =
    let text = c.args.text.now in
    sym (cond-false (all_digits text) _ (Err NotANumber) (no_digits text c.loop-byte.byte-index c.loop-byte-test.true (sym c.if-not-digit.ensures)))

pub loop-byte-preserved : goal.loop-byte-preserved
loop-byte-preserved c =
    let text = c.args.text.now in
    let i = c.loop-byte.byte-index in (
      c.grown-value.ensures (value_of (take i text)) c.loop-byte.invariant.0 ∙ ap held (sym (value_more text i c.loop-byte-test.true)),
      digits_more text i c.loop-byte-test.true c.loop-byte.invariant.1 (sym c.if-not-digit.ensures),
    )
