-- Numbers in decimal digits: which bytes are one, and what they come to. Assumes nothing.
use Rattle.std.specs.Prelude.{ℕ, ◌-◌, ◌^◌, Bool, true, cond, ◌&&◌, List, [], ◌∷◌, map, length, Some, None, Err, Option, Result, ◌==◌, nat_le, nat_lt, slice_index}
use Rattle.std.specs.Option.{ok_or}
use Rattle.std.specs.Int.Digits.{number_from_digits}
use Rattle.numerals.specs.declared.numeral.NumeralError.{NumeralError}
use Rattle.numerals.specs.declared.numeral.NumeralError.TheVariants.{NotANumber, TooLarge}

abbrev pub is_digit : ℕ → Bool
is_digit b = nat_le 48 b && nat_le b 57

abbrev pub all_digits : List ℕ → Bool
all_digits [] = true
all_digits (b ∷ bs) = is_digit b && all_digits bs

-- there is a first byte, and it is 0 only where it is alone
abbrev pub begins_number : List ℕ → Bool
begins_number bs = cond (slice_index bs 0 == 48) (length bs == 1) (nat_lt 0 (length bs))

-- 0 alone, or digits that do not begin with 0
abbrev pub is_number : List ℕ → Bool
is_number bs = begins_number bs && all_digits bs

-- the number that digits write
abbrev pub value_of : List ℕ → ℕ
value_of bs = number_from_digits 10 (map (λ b. b - 48) bs)

-- a number, if 64 bits hold it
abbrev pub held : ℕ → Option ℕ
held n = cond (nat_lt n (2 ^ 64)) (Some n) None

-- what is read of a number: itself, or that it is too large
abbrev pub read : ℕ → Result ℕ NumeralError
read n = ok_or (held n) TooLarge

abbrev pub counted : List ℕ → Result ℕ NumeralError
counted bs = cond (all_digits bs) (read (value_of bs)) (Err NotANumber)

abbrev pub numeral_of : List ℕ → Result ℕ NumeralError
numeral_of bs = cond (is_number bs) (read (value_of bs)) (Err NotANumber)
