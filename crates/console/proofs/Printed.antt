-- What a format of numbers writes is what they are written as. Assumes nothing.
use Rattle.std.proofs.Common.{◌≡◌, ℕ, suc, ◌^◌, ◌<◌, List, [], ◌∷◌, ◌++◌, ℤ, pos, negsuc, decimal, ap, arith, w32, SFits}
use Rattle.std.proofs.lemmas.List.{append_assoc}
use Rattle.std.specs.Fmt.{signed_decimal}
use Rattle.numerals.proofs.Numbers.{stands}
use Rattle.console.specs.Fields.{written_value}
use Rattle.console.specs.Printing.{printed_line}

abbrev pub formatted : ℕ → ℕ → ℕ → ℤ → List ℕ
formatted n r b v = decimal n ++ (44 ∷ (decimal r ++ (44 ∷ (decimal b ++ (44 ∷ (signed_decimal v ++ (10 ∷ [])))))))

value_signed : (v : ℤ) → SFits w32 v → written_value v ≡ signed_decimal v
value_signed (pos n) fits = stands.as_printed n (omega (arith, fits.sfits))
value_signed (negsuc n) fits = ap (λ (ds : List ℕ). 45 ∷ ds) (stands.as_printed (suc n) (omega (arith, fits.sfits)))

pub as_formatted : (n r b : ℕ) (v : ℤ) → n < 2 ^ 64 → r < 2 ^ 64 → b < 2 ^ 64 → SFits w32 v → printed_line n r b v ≡ formatted n r b v
as_formatted n r b v nl rl bl fits = rw (stands.as_printed n nl, stands.as_printed r rl, stands.as_printed b bl, value_signed v fits)

-- four numbers with what stands between and after them, one after the other
pub line_parts : (n r b v : List ℕ) → ((((((([] ++ n) ++ (44 ∷ [])) ++ r) ++ (44 ∷ [])) ++ b) ++ (44 ∷ [])) ++ v) ++ (10 ∷ []) ≡ n ++ (44 ∷ (r ++ (44 ∷ (b ++ (44 ∷ (v ++ (10 ∷ [])))))))
line_parts n r b v = simp append_assoc
