-- What natural numbers are written as, and reading in terms of it. Assumes nothing.
use Rattle.std.specs.Prelude.{◌≡◌, ℕ, zero, suc, ◌+◌, ◌^◌, ◌<◌, ◌≤◌, true, List, [], ◌∷◌, map, Ok, Err, decimal, Result, ◌≢◌}
use Rattle.std.specs.Int.Digits.{digits_of}
use Rattle.numerals.specs.declared.numeral.NumeralError.{NumeralError}
use Rattle.numerals.specs.declared.numeral.NumeralError.TheVariants.{NotANumber, TooLarge}
use Rattle.numerals.specs.Numerals.{is_number, numeral_of}

-- the decimal digits of a number of any size, as bytes
unfoldable pub written : ℕ → List ℕ
written zero = 48 ∷ []
written (suc n) = map (λ d. 48 + d) (digits_of 10 (suc n))

-- A text is read as the number that it is written of, as too large if that is 2^64 or more, and as no number where it is written of none.
pub data Reads (text : List ℕ) : Result ℕ NumeralError → Type 0 where
  some_number : (n : ℕ) → text ≡ written n → n < 2 ^ 64 → Reads text (Ok n)
  large_number : (n : ℕ) → text ≡ written n → 2 ^ 64 ≤ n → Reads text (Err TooLarge)
  no_number : ((n : ℕ) → text ≢ written n) → Reads text (Err NotANumber)

pub record Stands : Type 0 where
  -- a text is a number of the form exactly when some number is written so
  pub written_so : (text : List ℕ) → is_number text ≡ true → (n : ℕ) × (text ≡ written n)
  pub of_the_form : (n : ℕ) → is_number (written n) ≡ true
  -- which is one number, and the number that is read
  pub one : (m n : ℕ) → written m ≡ written n → m ≡ n
  pub reads : (text : List ℕ) → Reads text (numeral_of text)
  -- below 2^64 it is what the library writes
  pub as_printed : (n : ℕ) → n < 2 ^ 64 → written n ≡ decimal n
