-- What values and sheets are written as in a line, beside the numbers of crate numerals. Assumes nothing.
use Rattle.std.specs.Prelude.{ℕ, suc, ◌+◌, ◌/◌, ◌%◌, cond, List, [], ◌∷◌, ℤ, pos, negsuc, nat_lt}
use Rattle.numerals.specs.Decimal.{written}

-- a value below 0 has a minus before it
abbrev pub written_value : ℤ → List ℕ
written_value (pos n) = written n
written_value (negsuc n) = 45 ∷ written (suc n)

-- 0 to 9, then a to f
abbrev pub hexadecimal_digit : ℕ → ℕ
hexadecimal_digit d = cond (nat_lt d 10) (48 + d) (87 + d)

-- two digits to a byte, the higher one first
abbrev pub hexadecimal : List ℕ → List ℕ
hexadecimal [] = []
hexadecimal (b ∷ bs) = hexadecimal_digit (b / 16) ∷ hexadecimal_digit (b % 16) ∷ hexadecimal bs
