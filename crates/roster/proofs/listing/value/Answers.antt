use Rattle.std.proofs.Common.{◌≡◌, ℕ, ◌^◌, Bool, true, false, cond, Some, None, nat_lt, refl, ap, ◌∙◌}
use Rattle.std.specs.Option.{ok_or}
use Rattle.std.specs.Result.{result_ok}
use Rattle.numerals.specs.declared.numeral.NumeralError.TheVariants.{TooLarge}
use Rattle.numerals.specs.Numerals.{held, read}
use Rattle.numerals.proofs.Numbers.{numeral_written}
use Rattle.roster.proofs.listing.value.Goals as goal

held_read : (n : ℕ) → result_ok (read n) ≡ held n
held_read n = go (nat_lt n (2 ^ 64))
  where
    go : (z : Bool) → result_ok (ok_or (cond z (Some n) None) TooLarge) ≡ cond z (Some n) None
    go true = refl
    go false = refl

pub returns : goal.returns
returns c = λ n e. c.ok.ensures.value ∙ (ap result_ok (c.number.ensures ∙ numeral_written c.args.field.now n e) ∙ held_read n)
