-- What the bits of a number are: of zero, of a power of two, of `&` and `|`, of a mask made from a test. Assumes nothing.
use Rattle.std.specs.Prelude.{◌≡◌, ℕ, zero, suc, ◌+◌, ◌*◌, ◌/◌, ◌%◌, ◌^◌, ◌<◌, Bool, true, false, cond, ◌&&◌, ◌||◌, ◌==◌, nat_eq, nat_lt, refl}
use Rattle.std.proofs.Common.{sym, ap, ap₂, ◌∙◌, ⊎_elim, div-one, mod-lt, pow-suc, zero-add, one-mul, arith, shr-shr, pow_pos}
use Rattle.std.proofs.Math.Nat.{zero-div}
use Rattle.std.proofs.Math.Dec.{eqb-zero-suc, eqb-suc-zero, eqb-suc-suc}
use Rattle.std.proofs.Math.Arith.{bin_ind}
use Rattle.std.specs.Int.Bits.{bit_and, bit_or, shifted_half, shifted_even}
use Rattle.std.proofs.lemmas.Nat.{div-add-mod', and_shr, and_mod, or_shr, or_mod, or_shifted}
use Rattle.std.proofs.lemmas.Bool.{cases_order, lt-ltb, le-ltb, eq-eqb, ne_eqb, or_left, and_from, and_left, and_right}
use Rattle.std.proofs.lemmas.Bool.Decides.{nat_tests}
use Rattle.labels.specs.Bits.{bit, bits_where}

-- ---- one digit

digit_and : (x y : ℕ) → x < 2 → y < 2 → (bit_and x y == 1) ≡ (x == 1 && y == 1)
digit_and zero y hx hy = refl
digit_and (suc zero) zero hx hy = refl
digit_and (suc zero) (suc zero) hx hy = refl
digit_and (suc zero) (suc (suc y)) hx hy = absurd (omega arith)
digit_and (suc (suc x)) y hx hy = absurd (omega arith)

digit_or : (x y : ℕ) → x < 2 → y < 2 → (bit_or x y == 1) ≡ (x == 1 || y == 1)
digit_or zero y hx hy = refl
digit_or (suc zero) zero hx hy = refl
digit_or (suc zero) (suc zero) hx hy = refl
digit_or (suc zero) (suc (suc y)) hx hy = absurd (omega arith)
digit_or (suc (suc x)) y hx hy = absurd (omega arith)

digit_same : (x y : ℕ) → x < 2 → y < 2 → (x == 1) ≡ (y == 1) → x ≡ y
digit_same x y hx hy e = grind (arith, nat_tests)

two_pos : 0 < 2
two_pos = pow_pos 1

-- ---- bits

pub bit_zero : (i : ℕ) → bit i 0 ≡ false
unfolding bit
bit_zero i = ap (λ (x : ℕ). nat_eq (x % 2) 1) (zero-div (2 ^ i))

bit_lowest : (a : ℕ) → bit 0 a ≡ (a % 2 == 1)
unfolding bit
bit_lowest a = ap (λ (x : ℕ). nat_eq (x % 2) 1) (div-one a)

bit_next : (i a : ℕ) → bit (suc i) a ≡ bit i (a / 2)
unfolding bit
bit_next i a =
    ap (λ (x : ℕ). nat_eq (x % 2) 1) (ap (λ (k : ℕ). a / 2 ^ k) (let e : suc i ≡ 1 + i = omega arith in e) ∙ sym (shr-shr a 1 i))

pub bit_of_and : (i a b : ℕ) → bit i (bit_and a b) ≡ (bit i a && bit i b)
unfolding bit
bit_of_and i a b =
    ap (λ (x : ℕ). nat_eq (x % 2) 1) (and_shr a b i)
    ∙ ap (λ (x : ℕ). nat_eq x 1) (and_mod (a / 2 ^ i) (b / 2 ^ i) 1)
    ∙ digit_and (a / 2 ^ i % 2) (b / 2 ^ i % 2) (mod-lt (a / 2 ^ i) two_pos) (mod-lt (b / 2 ^ i) two_pos)

pub bit_of_or : (i a b : ℕ) → bit i (bit_or a b) ≡ (bit i a || bit i b)
unfolding bit
bit_of_or i a b =
    ap (λ (x : ℕ). nat_eq (x % 2) 1) (or_shr a b i)
    ∙ ap (λ (x : ℕ). nat_eq x 1) (or_mod (a / 2 ^ i) (b / 2 ^ i) 1)
    ∙ digit_or (a / 2 ^ i % 2) (b / 2 ^ i % 2) (mod-lt (a / 2 ^ i) two_pos) (mod-lt (b / 2 ^ i) two_pos)

-- a power of two has one bit
pub bit_power : (i n : ℕ) → bit i (2 ^ n) ≡ (i == n)
bit_power zero zero = bit_lowest 1
bit_power zero (suc n) =
    bit_lowest (2 ^ suc n)
    ∙ ap (λ (x : ℕ). nat_eq (x % 2) 1) (sym (one-mul (2 ^ suc n)))
    ∙ ap (λ (x : ℕ). nat_eq x 1) (shifted_even 1 n)
    ∙ sym (eqb-zero-suc n)
bit_power (suc i) zero = bit_next i 1 ∙ bit_zero i ∙ sym (eqb-suc-zero i)
bit_power (suc i) (suc n) =
    bit_next i (2 ^ suc n)
    ∙ ap (bit i) (ap (λ (x : ℕ). x / 2) (sym (one-mul (2 ^ suc n))) ∙ shifted_half 1 n ∙ one-mul (2 ^ n))
    ∙ bit_power i n
    ∙ sym (eqb-suc-suc i n)

-- numbers with the same bits are equal
halves_same : (a b : ℕ) → a / 2 ≡ b / 2 → a % 2 ≡ b % 2 → a ≡ b
halves_same a b p q = sym (div-add-mod' a 2) ∙ ap₂ (λ (x y : ℕ). x * 2 + y) p q ∙ div-add-mod' b 2

lowest_same : (a b : ℕ) → bit 0 a ≡ bit 0 b → a % 2 ≡ b % 2
lowest_same a b e =
    digit_same (a % 2) (b % 2) (mod-lt a two_pos) (mod-lt b two_pos) (sym (bit_lowest a) ∙ e ∙ bit_lowest b)

no_bits : (b : ℕ) → ((i : ℕ) → bit i b ≡ false) → 0 ≡ b
no_bits =
    bin_ind (λ (n : ℕ). ((i : ℕ) → bit i n ≡ false) → 0 ≡ n) (λ h. refl)
    (λ n ih h. halves_same 0 n (ih (λ i. sym (bit_next i n) ∙ h (suc i))) (lowest_same 0 n (bit_zero 0 ∙ sym (h 0))))

pub same_bits : (a b : ℕ) → ((i : ℕ) → bit i a ≡ bit i b) → a ≡ b
same_bits =
    bin_ind (λ (n : ℕ). (b : ℕ) → ((i : ℕ) → bit i n ≡ bit i b) → n ≡ b)
    (λ b h. no_bits b (λ i. sym (h i) ∙ bit_zero i))
    (λ n ih b h. halves_same n b (ih (b / 2) (λ i. sym (bit_next i n) ∙ h (suc i) ∙ bit_next i b)) (lowest_same n b (h 0)))

-- ---- a mask made from a test

pub where_below : (n : ℕ) (p : ℕ → Bool) → bits_where n p < 2 ^ n
unfolding bits_where
where_below zero p = omega arith
where_below (suc n) p = go (p n) (where_below n p)
  where
    go : (t : Bool) → bits_where n p < 2 ^ n → cond t (2 ^ n) 0 + bits_where n p < 2 ^ suc n
    go true h = omega (arith, pow-suc 2 n)
    go false h = omega (arith, pow-suc 2 n)

-- one more place: `e` says that i is the new place n, `l` that it is below n, `m` that it is below suc n
at_place : (e l m x : Bool) → e ≡ true → m ≡ true → x ≡ true → (e || (l && x)) ≡ (m && x)
at_place e l m x he hm hx = or_left e (l && x) he ∙ sym (and_from m x hm hx)

under_place : (e l m x : Bool) → e ≡ false → l ≡ true → m ≡ true → (e || (l && x)) ≡ (m && x)
under_place e l m x he hl hm = rw (he, hl, hm)

over_place : (e l m x : Bool) → e ≡ false → l ≡ false → m ≡ false → (e || (l && x)) ≡ (m && x)
over_place e l m x he hl hm = rw (he, hl, hm)

-- place n is set
set_place : (i n : ℕ) (p : ℕ → Bool) → p n ≡ true → (i == n || (nat_lt i n && p i)) ≡ (nat_lt i (suc n) && p i)
set_place i n p h =
    ⊎_elim (λ e. at_place (i == n) (nat_lt i n) (nat_lt i (suc n)) (p i) (eq-eqb i n e) (lt-ltb i (suc n) (omega arith)) (ap p e ∙ h))
    (⊎_elim
    (λ u. under_place (i == n) (nat_lt i n) (nat_lt i (suc n)) (p i) (ne_eqb i n (omega arith)) (lt-ltb i n u) (lt-ltb i (suc n) (omega arith)))
    (λ o. over_place (i == n) (nat_lt i n) (nat_lt i (suc n)) (p i) (ne_eqb i n (omega arith)) (le-ltb i n (omega arith)) (le-ltb i (suc n) o)))
    (cases_order i n)

-- place n is not set
unset_place : (i n : ℕ) (p : ℕ → Bool) → p n ≡ false → (nat_lt i n && p i) ≡ (nat_lt i (suc n) && p i)
unset_place i n p h =
    ⊎_elim (λ e. and_right (nat_lt i n) (p i) (ap p e ∙ h) ∙ sym (and_right (nat_lt i (suc n)) (p i) (ap p e ∙ h)))
    (⊎_elim
    (λ u. under_place false (nat_lt i n) (nat_lt i (suc n)) (p i) refl (lt-ltb i n u) (lt-ltb i (suc n) (omega arith)))
    (λ o. over_place false (nat_lt i n) (nat_lt i (suc n)) (p i) refl (le-ltb i n (omega arith)) (le-ltb i (suc n) o)))
    (cases_order i n)

-- bit n and the bits of a mask below 2^n
pub bit_above : (i n g : ℕ) → g < 2 ^ n → bit i (2 ^ n + g) ≡ (i == n || bit i g)
bit_above i n g h =
    ap (λ (x : ℕ). bit i (x + g)) (sym (one-mul (2 ^ n)))
    ∙ ap (bit i) (sym (or_shifted 1 n g h))
    ∙ bit_of_or i (1 * 2 ^ n) g
    ∙ ap (λ (x : ℕ). bit i x || bit i g) (one-mul (2 ^ n))
    ∙ ap (λ (t : Bool). t || bit i g) (bit_power i n)

pub where_bit : (n : ℕ) (p : ℕ → Bool) (i : ℕ) → bit i (bits_where n p) ≡ (nat_lt i n && p i)
unfolding bits_where
where_bit zero p i = bit_zero i ∙ sym (and_left (nat_lt i 0) (p i) (le-ltb i 0 (omega arith)))
where_bit (suc n) p i = go (p n) refl (where_bit n p i)
  where
    go : (t : Bool) → p n ≡ t → bit i (bits_where n p) ≡ (nat_lt i n && p i) → bit i (cond t (2 ^ n) 0 + bits_where n p) ≡ (nat_lt i (suc n) && p i)
    go true h ih = bit_above i n (bits_where n p) (where_below n p) ∙ ap (λ (t : Bool). (i == n) || t) ih ∙ set_place i n p h
    go false h ih = ap (bit i) (zero-add (bits_where n p)) ∙ ih ∙ unset_place i n p h
