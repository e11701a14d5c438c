-- The line that is printed for a call. Assumes nothing.
use Rattle.std.specs.Prelude.{ℕ, List, [], ◌∷◌, ◌++◌, ℤ}
use Rattle.numerals.specs.Decimal.{written}
use Rattle.console.specs.Fields.{written_value}

-- a number, a row, a byte and a value with commas between them, and byte 10
abbrev pub printed_line : ℕ → ℕ → ℕ → ℤ → List ℕ
printed_line number row byte value =
    written number ++ (44 ∷ (written row ++ (44 ∷ (written byte ++ (44 ∷ (written_value value ++ (10 ∷ [])))))))
