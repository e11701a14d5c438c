-- The share is the nearest whole number.
use Rattle.std.proofs.Common.{◌≡◌, ℕ, zero, suc, ◌+◌, ◌*◌, ◌^◌, ◌<◌, ◌≤◌, ℤ, pos, negsuc, ◌-ℤ◌, ◌*ℤ◌, neg_ℤ, nat_abs, sym, refl, ap, ◌∙◌, subst, arith, w32, SFits}
use Rattle.std.proofs.lemmas.Nat.{div-add-mod', div_below, mod_below}
use Rattle.std.proofs.lemmas.Int.{ints, int_wrap_fits}
use Rattle.operations.specs.Operations.{nearest, with_signs, shared}
use Rattle.operations.specs.Words.{Nearest, least_value}
use Rattle.operations.proofs.Shares.{of_nonzero}

-- k with the sign of a
abbrev with_sign : ℤ → ℕ → ℤ
with_sign (pos a) k = pos k
with_sign (negsuc a) k = neg_ℤ (pos k)

-- times the divisor, it has the sign of what was divided
back : (a b : ℤ) (t : ℕ) → with_signs a b t *ℤ b ≡ with_sign a (t * nat_abs b)
back (pos a) (pos b) t = refl
back (pos a) (negsuc b) zero = omega (arith, ints)
back (pos a) (negsuc b) (suc t) = refl
back (negsuc a) (pos b) zero = omega (arith, ints)
back (negsuc a) (pos b) (suc t) = refl
back (negsuc a) (negsuc b) t = refl

module _ (n k : ℕ) (p : ℤ) where
  close : (a : ℤ) → p ≡ with_sign a k → 2 * k ≤ 2 * nat_abs a + n → 2 * nat_abs a < 2 * k + n → 2 * nat_abs (a -ℤ p) ≤ n
  close (pos m) e low high = omega (arith, ints)
  close (negsuc m) e low high = omega (arith, ints)

  away : (a : ℤ) → p ≡ with_sign a k → 2 * k ≤ 2 * nat_abs a + n → 2 * nat_abs a < 2 * k + n → 2 * nat_abs (a -ℤ p) ≡ n → nat_abs a ≤ nat_abs p
  away (pos m) e low high half = omega (arith, ints)
  away (negsuc m) e low high half = omega (arith, ints)

module _ (m n : ℕ) (some : 0 < n) where
  low : 2 * (nearest m n * n) ≤ 2 * m + n
  low = omega (arith, div-add-mod' (2 * m + n) (2 * n))

  high : 2 * m < 2 * (nearest m n * n) + n
  high = omega (arith, div-add-mod' (2 * m + n) (2 * n), mod_below (2 * m + n) (2 * n) (omega arith))

  below : (k : ℕ) → 2 * m + n < k * (2 * n) → nearest m n < k
  below k h = div_below (2 * m + n) (2 * n) k (omega arith) h

positive : (b : ℤ) → (b ≡ pos 0 → ⊥) → 0 < nat_abs b
positive (pos zero) some = absurd (some refl)
positive (pos (suc n)) some = omega arith
positive (negsuc n) some = omega arith

-- the magnitude of a share, with its sign, is a value
fits : (a b : ℤ) → SFits w32 a → SFits w32 b → (b ≡ pos 0 → ⊥) → (a ≡ least_value → b ≡ negsuc 0 → ⊥)
    → SFits w32 (with_signs a b (nearest (nat_abs a) (nat_abs b)))
fits (pos m) (pos n) f g some corner =
    let h = positive (pos n) some in
    record { sfits = below m n h (2 ^ 31) (omega (arith, f.sfits)) }
fits (pos m) (negsuc n) f g some corner =
    let h = below m (suc n) (omega arith) (2 ^ 31 + 1) (omega (arith, f.sfits)) in
    omega (arith, ints)
fits (negsuc m) (pos n) f g some corner =
    let k = positive (pos n) some in
    let h = below (suc m) n k (2 ^ 31 + 1) (omega (arith, f.sfits)) in
    omega (arith, ints)
fits (negsuc m) (negsuc zero) f g some corner =
    let ne : m ≡ 2147483647 → ⊥ = λ e. corner (ap negsuc e) refl in
    record { sfits = below (suc m) 1 (omega arith) (2 ^ 31) (omega (arith, f.sfits)) }
fits (negsuc m) (negsuc (suc n)) f g some corner =
    record { sfits = below (suc m) (suc (suc n)) (omega arith) (2 ^ 31) (omega (arith, f.sfits)) }

pub shared_nearest : (a b : ℤ) → SFits w32 a → SFits w32 b → (b ≡ pos 0 → ⊥) → (a ≡ least_value → b ≡ negsuc 0 → ⊥) → Nearest a b (shared a b)
shared_nearest a b f g some corner =
    let m = nat_abs a in
    let n = nat_abs b in
    let t = nearest m n in
    let h = positive b some in
    subst (Nearest a b) (sym (of_nonzero a b some ∙ int_wrap_fits w32 (with_signs a b t) (fits a b f g some corner)))
    (record {
      near = close n (t * n) _ a (back a b t) (low m n h) (high m n h);
      half = away n (t * n) _ a (back a b t) (low m n h) (high m n h);
    })
