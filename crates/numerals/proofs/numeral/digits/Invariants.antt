use Rattle.std.proofs.Common.{◌≡◌, true, take}
use Rattle.numerals.specs.Numerals.{all_digits, value_of, held}
use Rattle.numerals.proofs.numeral.digits.Given as goal

-- what the bytes so far come to
abbrev pub invariant-loop-byte : goal.invariant-loop-byte
invariant-loop-byte l = (l.value ≡ held (value_of (take l.byte-index l.text))) × (all_digits (take l.byte-index l.text) ≡ true)
