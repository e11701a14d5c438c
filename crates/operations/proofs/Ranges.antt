-- Values in range, and what is brought into range.
use Rattle.std.proofs.Common.{◌≡◌, ℕ, suc, ◌+◌, ◌-◌, ◌*◌, ◌/◌, ◌%◌, ◌^◌, ◌<◌, Bool, true, false, ltb, ℤ, pos, negsuc, ◌+ℤ◌, ◌-ℤ◌, ◌*ℤ◌, neg_ℤ, refl, arith, w32, SFits, to_z}
use mir.Val.{sel}
use Rattle.std.proofs.lemmas.Int.{ints, SFits-int_wrap}
use Rattle.std.specs.Int.{int_wrap}
use Rattle.operations.specs.Words.{Value, BroughtIn}

pub of_fits : (z : ℤ) → SFits w32 z → Value z
of_fits z f = record { low = omega (arith, ints); high = omega (arith, ints) }

pub to_fits : (z : ℤ) → Value z → SFits w32 z
to_fits z v = omega (arith, ints, v.low, v.high)

-- bits read as a value are 2^32 times 0 or 1 less than the number that they write
under : (m : ℕ) → m < 2 ^ 32 → (j : ℕ) × (to_z w32 m +ℤ pos (j * 2 ^ 32) ≡ pos m)
under m h = go (ltb m (2 ^ 31)) refl
  where
    go : (t : Bool) → ltb m (2 ^ 31) ≡ t → (j : ℕ) × (sel t (pos m) (negsuc (2 ^ 32 - suc m)) +ℤ pos (j * 2 ^ 32) ≡ pos m)
    go true e = (0, omega (arith, ints))
    go false e = (1, omega (arith, ints))

multiple : (z : ℤ) → (k : ℤ) × (int_wrap w32 z ≡ z +ℤ k *ℤ pos (2 ^ 32))
unfolding int_wrap
multiple (pos n) =
    let u = under (n % 2 ^ 32) (omega arith) in
    (neg_ℤ (pos (n / 2 ^ 32 + u.0)), omega (arith, ints, u.1))
multiple (negsuc n) =
    let u = under (2 ^ 32 - 1 - n % 2 ^ 32) (omega arith) in
    (pos (n / 2 ^ 32 + 1) -ℤ pos u.0, omega (arith, ints, u.1))

pub brought_in : (z : ℤ) → BroughtIn z (int_wrap w32 z)
brought_in z = record { value = of_fits _ (SFits-int_wrap w32 z); multiple = multiple z }

pub small : (n : ℕ) → n < 2 ^ 31 → Value (pos n)
small n h = of_fits (pos n) (record { sfits = h })
