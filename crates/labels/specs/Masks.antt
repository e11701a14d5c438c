-- The masks of topics and of a house, as code makes them. Assumes nothing.
use Rattle.std.specs.Prelude.{◌≡◌, ℕ, zero, suc, ◌+◌, ◌-◌, ◌*◌, ◌/◌, ◌%◌, ◌^◌, ◌<◌, ◌≤◌, Bool, true, false, cond, bit_or, refl}
use Rattle.std.proofs.Common.{sym, ap, ap₂, ◌∙◌, pow-suc, one-mul, add-one, arith, pow_pos}
use Rattle.std.specs.Int.Bits.{or_shifted_r}
use Rattle.std.proofs.Math.Pow.{ones_split, ones_lt, high}
use Rattle.std.proofs.lemmas.Nat.{mul-le, one_shl}
use Rattle.labels.specs.Bits.{bits_where}
use Rattle.labels.specs.Schemes.{any_topic, house_bits}
use Rattle.labels.specs.BitLaws.{where_below}

-- ---- topics: all bits below n

pub ones_where : (n : ℕ) → bits_where n any_topic ≡ 2 ^ n - 1
unfolding bits_where
ones_where zero = refl
ones_where (suc n) = omega (arith, ones_where n, pow-suc 2 n, pow_pos n)

-- `u64::MAX >> (64 - n)`
pub shifted_ones : (n : ℕ) → n ≤ 64 → 18446744073709551615 / 2 ^ (64 - n) ≡ bits_where n any_topic
shifted_ones n h =
    let k = 64 - n in
    let e : 64 ≡ n + k = omega arith in
    ap (λ (x : ℕ). (2 ^ x - 1) / 2 ^ k) e
    ∙ ap (λ (x : ℕ). x / 2 ^ k) (ones_split n k)
    ∙ high (2 ^ n - 1) k (ones_lt k)
    ∙ sym (ones_where n)

-- ---- a house: one bit more

pub square_fits : (k : ℕ) → k ≤ 8 → house_bits k ≤ 64
square_fits k h = mul-le k k 8 8 h h

pub square_some : (k : ℕ) → 1 ≤ k → 1 ≤ house_bits k
square_some k h = mul-le 1 1 k k h h

-- `mask |= 1 << i`
pub one_bit_more : (i : ℕ) (p : ℕ → Bool) (mask : ℕ) → i < 64 → mask ≡ bits_where i p → p i ≡ true
    → bit_or mask ((1 * 2 ^ i) % 2 ^ 64) ≡ bits_where (i + 1) p
unfolding bits_where
one_bit_more i p mask h e t =
    ap₂ bit_or e (one_shl i 64 h ∙ sym (one-mul (2 ^ i)))
    ∙ or_shifted_r 1 i (bits_where i p) (where_below i p)
    ∙ ap (λ (x : ℕ). x + bits_where i p) (one-mul (2 ^ i))
    ∙ ap (λ (b : Bool). cond b (2 ^ i) 0 + bits_where i p) (sym t)
    ∙ ap (λ (x : ℕ). bits_where x p) (sym (add-one i))

pub no_bit_more : (i : ℕ) (p : ℕ → Bool) → p i ≡ false → bits_where i p ≡ bits_where (i + 1) p
unfolding bits_where
no_bit_more i p f =
    omega (arith, ap (λ (b : Bool). cond b (2 ^ i) 0 + bits_where i p) f, ap (λ (x : ℕ). bits_where x p) (add-one i))
