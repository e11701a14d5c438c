-- What is computed from magnitudes and signs is the share.
use Rattle.std.proofs.Common.{◌≡◌, ℕ, ◌-◌, ◌%◌, ◌^◌, ◌<◌, Bool, true, false, ℤ, pos, negsuc, neg_ℤ, nat_abs, sym, refl, ap, ◌∙◌, mod-eq_of_lt, arith, w32, SFits, to_z, of_z}
use mathlib.Core.Bool.{beq}
use lib.IntN.{+ℤ_idl}
use lib.Signed.{lt_z}
use Rattle.std.proofs.lemmas.Int.{to_z-of_z, wrapping_neg_is, int_wrap-sub_right, SFits-int_wrap}
use Rattle.std.proofs.lemmas.Bool.Decides.{nat_tests}
use Rattle.std.specs.Int.{int_wrap}
use Rattle.operations.specs.Operations.{equal, nearest, with_signs, shared}

-- the bits of a number below 2^32 are read as the value that it is brought to
read_is : (n : ℕ) → n < 2 ^ 32 → to_z w32 n ≡ int_wrap w32 (pos n)
unfolding int_wrap
read_is n h = ap (to_z w32) (sym (mod-eq_of_lt h))

negated : (z : ℤ) → int_wrap w32 (neg_ℤ (int_wrap w32 z)) ≡ int_wrap w32 (neg_ℤ z)
negated z = ap (int_wrap w32) (sym (+ℤ_idl _)) ∙ int_wrap-sub_right w32 (pos 0) z ∙ ap (int_wrap w32) (+ℤ_idl (neg_ℤ z))

nonzero : (b : ℤ) → (b ≡ pos 0 → ⊥) → equal b (pos 0) ≡ false
nonzero (pos n) h = let k : n ≡ 0 → ⊥ = λ e. h (ap pos e) in grind (arith, nat_tests)
nonzero (negsuc n) h = refl

same_signs : (a b : ℤ) (n : ℕ) → beq (lt_z a (pos 0)) (lt_z b (pos 0)) ≡ true → with_signs a b n ≡ pos n
same_signs (pos a) (pos b) n h = refl
same_signs (pos a) (negsuc b) n h = grind (arith, nat_tests)
same_signs (negsuc a) (pos b) n h = grind (arith, nat_tests)
same_signs (negsuc a) (negsuc b) n h = refl

other_signs : (a b : ℤ) (n : ℕ) → beq (lt_z a (pos 0)) (lt_z b (pos 0)) ≡ false → with_signs a b n ≡ neg_ℤ (pos n)
other_signs (pos a) (pos b) n h = grind (arith, nat_tests)
other_signs (pos a) (negsuc b) n h = refl
other_signs (negsuc a) (pos b) n h = refl
other_signs (negsuc a) (negsuc b) n h = grind (arith, nat_tests)

pub of_nonzero : (a b : ℤ) → (b ≡ pos 0 → ⊥) → shared a b ≡ int_wrap w32 (with_signs a b (nearest (nat_abs a) (nat_abs b)))
of_nonzero a b some = rw (nonzero b some)

-- n is the nearest whole number by the magnitudes p and q
module _ (a b : ℤ) (f : SFits w32 a) (g : SFits w32 b) (some : of_z w32 b ≡ 0 → ⊥)
    (p q n : ℕ) (p-is : p ≡ nat_abs (to_z w32 (of_z w32 a))) (q-is : q ≡ nat_abs (to_z w32 (of_z w32 b))) (n-is : n ≡ nearest p q) (small : n < 2 ^ 32) where
  shared_is : shared a b ≡ int_wrap w32 (with_signs a b n)
  shared_is =
      of_nonzero a b (λ e. some (ap (of_z w32) e))
      ∙ ap (λ k. int_wrap w32 (with_signs a b k)) (sym (n-is ∙ (λ i. nearest (p-is i) (q-is i)) ∙ simp to_z-of_z))

  abbrev alike : Bool
  alike = beq (lt_z (to_z w32 (of_z w32 a)) (pos 0)) (lt_z (to_z w32 (of_z w32 b)) (pos 0))

  pub of_same_signs : alike ≡ true → to_z w32 n ≡ shared a b
  of_same_signs h = read_is n small ∙ sym (shared_is ∙ ap (int_wrap w32) (same_signs a b n (simp to_z-of_z at h)))

  pub of_other_signs : (r : ℤ) → r ≡ to_z w32 n → alike ≡ false → to_z w32 ((2 ^ 32 - of_z w32 (to_z w32 (of_z w32 r))) % 2 ^ 32) ≡ shared a b
  of_other_signs r e h =
      let e' : r ≡ int_wrap w32 (pos n) = e ∙ read_is n small in
      let fits : SFits w32 r = rw e' (SFits-int_wrap w32 (pos n)) in
      rw to_z-of_z (wrapping_neg_is w32 r fits ∙ ap (λ z. int_wrap w32 (neg_ℤ z)) e' ∙ negated (pos n))
      ∙ sym (shared_is ∙ ap (int_wrap w32) (other_signs a b n (simp to_z-of_z at h)))
