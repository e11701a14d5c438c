-- Counting the bits in which two values differ.
use Rattle.std.proofs.Common.{◌≡◌, ℕ, zero, suc, ◌+◌, ◌/◌, ◌%◌, ◌^◌, ◌<◌, ◌≤◌, cond, eqb, ℤ, pos, negsuc, nat_abs, sym, ap, ◌∙◌, mod-eq_of_lt, one-add, arith, w32, SFits, to_z, of_z}
use lib.Bits.{bit_xor}
use lib.Count.{ones, ones_cat, ones-ones}
use mir.ValLaws.{of_z_fits}
use Rattle.std.proofs.lemmas.Bool.Decides.{nat_tests}
use Rattle.std.proofs.lemmas.Nat.{mod-pow-add, mod_below, ones-le, pow_pos, xor_lt}
use Rattle.std.proofs.lemmas.Nat.Bits.{bit_at_xor, bit_at-lt}
use Rattle.std.proofs.lemmas.Int.{to_z-of_z}
use Rattle.std.specs.Int.{int_rem_euclid}
use Rattle.operations.specs.Words.{differing}

-- the two's complement form of a value
residue : (z : ℤ) → SFits w32 z → of_z w32 z ≡ nat_abs (int_rem_euclid z (pos (2 ^ 32)))
residue (pos n) f = omega (arith, f.sfits)
residue (negsuc n) f = omega (arith, f.sfits)

ones_bit : (x : ℕ) → x < 2 → ones x ≡ x
ones_bit zero h = ones-ones 0
ones_bit (suc zero) h = ones-ones 1
ones_bit (suc (suc x)) h = absurd (omega arith)

-- one more bit
ones_more : (n k : ℕ) → ones (n % 2 ^ suc k) ≡ n / 2 ^ k % 2 + ones (n % 2 ^ k)
ones_more n k =
    ap (λ j. ones (n % 2 ^ j)) (sym (one-add k)) ∙ ap ones (mod-pow-add n 1 k)
    ∙ ones_cat k (n / 2 ^ k % 2) (n % 2 ^ k) (mod_below n (2 ^ k) (pow_pos k))
    ∙ ap (λ x. x + ones (n % 2 ^ k)) (ones_bit (n / 2 ^ k % 2) (bit_at-lt n k))

unequal : (p q : ℕ) → p < 2 → q < 2 → (p + q) % 2 ≡ cond (eqb p q) 0 1
unequal p q h k = grind (arith, nat_tests)

xor_bit : (x y i : ℕ) → bit_xor x y / 2 ^ i % 2 ≡ cond (eqb (x / 2 ^ i % 2) (y / 2 ^ i % 2)) 0 1
xor_bit x y i = bit_at_xor x y i ∙ unequal _ _ (bit_at-lt x i) (bit_at-lt y i)

module _ (a b : ℤ) (f : SFits w32 a) (g : SFits w32 b) where
  small : bit_xor (of_z w32 a) (of_z w32 b) < 2 ^ 32
  small = xor_lt 32 _ _ (of_z_fits w32 a f).fits (of_z_fits w32 b g).fits

  pub at_most_32 : ones (bit_xor (of_z w32 a) (of_z w32 b)) ≤ 32
  at_most_32 = ones-le 32 _ small

  -- a value cast to its bits
  abbrev bits : ℤ → ℕ
  bits z = of_z w32 (to_z w32 (of_z w32 z))

  module _ (x y n : ℕ) (x-is : x ≡ bits a) (y-is : y ≡ bits b) (n-is : n ≡ ones (bit_xor x y)) where
    pub of_bits : n ≡ ones (bit_xor (of_z w32 a) (of_z w32 b))
    of_bits = n-is ∙ (λ i. ones (bit_xor (x-is i) (y-is i))) ∙ simp to_z-of_z

    pub of_bits_small : n < 2 ^ 31
    of_bits_small = omega (arith, of_bits, at_most_32)

  counted : (k : ℕ) → ones (bit_xor (of_z w32 a) (of_z w32 b) % 2 ^ k) ≡ differing k a b
  counted zero = ap ones (omega arith) ∙ ones-ones 0
  counted (suc k) =
      ones_more (bit_xor (of_z w32 a) (of_z w32 b)) k
      ∙ (λ i. (xor_bit (of_z w32 a) (of_z w32 b) k ∙ (λ j. cond (eqb (residue a f j / 2 ^ k % 2) (residue b g j / 2 ^ k % 2)) 0 1)) i + counted k i)

  pub counts : ones (bit_xor (of_z w32 a) (of_z w32 b)) ≡ differing 32 a b
  counts = ap ones (sym (mod-eq_of_lt small)) ∙ counted 32
