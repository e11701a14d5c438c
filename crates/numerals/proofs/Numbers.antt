-- Numbers in decimal digits: how they grow by a digit, that they are digits, and that they have their value back. Assumes nothing.
use Rattle.std.proofs.Common.{◌≡◌, ℕ, zero, suc, ◌+◌, ◌-◌, ◌*◌, ◌/◌, ◌%◌, ◌^◌, ◌<◌, ◌≤◌, Bool, true, false, cond, eqb, ltb, leb, List, [], ◌∷◌, ◌++◌, map, length, get_or, take, Some, None, Err, decimal, sym, refl, ap, ◌∙◌, subst, ⊎_elim, arith}
use Rattle.std.specs.Option.{ok_or}
use Rattle.std.specs.Int.Digits.{digits_of, number_from_digits}
use Rattle.std.specs.List.{AllByRecursion}
use Rattle.std.proofs.lemmas.Fmt.{decimal_digit, decimal-digits_of}
use Rattle.std.proofs.lemmas.Int.Digits.{digits_of_step, first_digits_of, all_below_base_digits_of, number_digits_of, number_push}
use Rattle.std.proofs.ByRecursion.{All-map, All-weaker}
use Rattle.std.proofs.lemmas.List.{map-append, map_more, take_more, append_assoc, append-nil, nil_from_length}
use Rattle.std.proofs.lemmas.Bool.{and_parts, and_from, and_left, and_right, leb-true, le-leb, eqb-true, eqb-false, ne_eqb, lt-ltb, both_ways, cases_lt, le-ltb}
use Rattle.numerals.specs.declared.numeral.NumeralError.TheVariants.{NotANumber, TooLarge}
use Rattle.numerals.specs.Numerals.{is_digit, all_digits, begins_number, is_number, value_of, read, numeral_of}
use Rattle.numerals.specs.Decimal.{written, Reads, some_number, large_number, no_number, Stands}

-- ---- digits

abbrev pub IsDigit : ℕ → Type 0
IsDigit b = (48 ≤ b) × (b ≤ 57)

pub digit_bounds : (b : ℕ) → is_digit b ≡ true → IsDigit b
digit_bounds b h = let p = and_parts (leb 48 b) (leb b 57) h in (leb-true 48 b p.0, leb-true b 57 p.1)

pub digit_from : (b : ℕ) → IsDigit b → is_digit b ≡ true
digit_from b h = and_from (leb 48 b) (leb b 57) (le-leb 48 b h.0) (le-leb b 57 h.1)

digits_from : (bs : List ℕ) → AllByRecursion IsDigit bs → all_digits bs ≡ true
digits_from [] all = refl
digits_from (b ∷ bs) all = and_from (is_digit b) (all_digits bs) (digit_from b all.0) (digits_from bs all.1)

-- ---- a number's digits

written_some : (n : ℕ) → 0 < n → written n ≡ map (λ d. 48 + d) (digits_of 10 n)
unfolding written
written_some zero h = absurd (omega arith)
written_some (suc n) h = refl

-- a number with one digit more
pub written_grown : (n d : ℕ) → 0 < n → d < 10 → written (n * 10 + d) ≡ written n ++ ((48 + d) ∷ [])
written_grown n d h l =
    let q : (n * 10 + d) / 10 ≡ n = omega arith in
    let m : (n * 10 + d) % 10 ≡ d = omega arith in
    written_some (n * 10 + d) (omega arith)
    ∙ (ap (map (λ x. 48 + x)) (digits_of_step 10 (n * 10 + d) (omega arith) (omega arith))
    ∙ (ap (λ (x : ℕ). map (λ y. 48 + y) (digits_of 10 x ++ ((n * 10 + d) % 10 ∷ []))) q
    ∙ (ap (λ (x : ℕ). map (λ y. 48 + y) (digits_of 10 n ++ (x ∷ []))) m
    ∙ (map-append (λ y. 48 + y) (digits_of 10 n) (d ∷ [])
    ∙ ap (λ (x : List ℕ). x ++ ((48 + d) ∷ [])) (sym (written_some n h))))))

-- a number of one digit
pub written_one : (d : ℕ) → d < 10 → written d ≡ (48 + d) ∷ []
unfolding written
written_one zero l = refl
written_one (suc d) l =
    let q : suc d / 10 ≡ 0 = omega arith in
    let m : suc d % 10 ≡ suc d = omega arith in
    ap (map (λ x. 48 + x)) (digits_of_step 10 (suc d) (omega arith) (omega arith))
    ∙ (ap (λ (x : ℕ). map (λ y. 48 + y) (digits_of 10 x ++ (suc d % 10 ∷ []))) q
    ∙ ap (λ (x : ℕ). map (λ y. 48 + y) (x ∷ [])) m)

pub written_digits : (n : ℕ) → AllByRecursion IsDigit (written n)
unfolding written
written_digits zero = ((omega arith, omega arith), tt)
written_digits (suc n) =
    All-map IsDigit (λ d. 48 + d) (digits_of 10 (suc n)) (All-weaker (λ d. d < 10) (λ d. IsDigit (48 + d)) (λ d l. (omega arith, omega arith)) (digits_of 10 (suc n)) (all_below_base_digits_of 10 (suc n) (omega arith)))

figures : (ds : List ℕ) → map (λ b. b - 48) (map (λ d. 48 + d) ds) ≡ ds
figures [] = refl
figures (d ∷ ds) =
    let e : 48 + d - 48 ≡ d = omega arith in
    ap (λ (x : ℕ). x ∷ map (λ b. b - 48) (map (λ y. 48 + y) ds)) e ∙ ap (λ (xs : List ℕ). d ∷ xs) (figures ds)

-- the digits of a number have it for their value
pub value_written : (n : ℕ) → value_of (written n) ≡ n
unfolding written
value_written zero = refl
value_written (suc n) = ap (number_from_digits 10) (figures (digits_of 10 (suc n))) ∙ number_digits_of 10 (suc n) (omega arith)

same_from_written : (m n : ℕ) → written m ≡ written n → m ≡ n
same_from_written m n e = sym (value_written m) ∙ (ap value_of e ∙ value_written n)

same_decimal : (n : ℕ) → n < 2 ^ 64 → written n ≡ decimal n
unfolding written
same_decimal zero l = sym (decimal_digit 0 (omega arith))
same_decimal (suc n) l = sym (decimal-digits_of (suc n) (omega arith) l)

-- ---- which bytes are a number

-- digits after a number that is not 0 make it a longer one
written_onto : (ds : List ℕ) (n : ℕ) → 0 < n → all_digits ds ≡ true → (m : ℕ) × (written n ++ ds ≡ written m)
written_onto [] n h all = (n, append-nil (written n))
written_onto (b ∷ ds) n h all =
    let both = and_parts (is_digit b) (all_digits ds) all in
    let bounds = digit_bounds b both.0 in
    let e : 48 + (b - 48) ≡ b = omega arith in
    let r = written_onto ds (n * 10 + (b - 48)) (omega arith) both.1 in
    (r.0, sym (append_assoc (written n) (b ∷ []) ds) ∙ (ap (λ (xs : List ℕ). xs ++ ds) (ap (λ (x : ℕ). written n ++ (x ∷ [])) (sym e) ∙ sym (written_grown n (b - 48) h (omega arith))) ∙ r.1))

-- the first digit, where it is not 0, is a number that the others go on from
longer : (b : ℕ) (rest : List ℕ) → (b ≡ 48 → ⊥) → all_digits (b ∷ rest) ≡ true → (n : ℕ) × (b ∷ rest ≡ written n)
longer b rest some all =
    let both = and_parts (is_digit b) (all_digits rest) all in
    let bounds = digit_bounds b both.0 in
    let e : 48 + (b - 48) ≡ b = omega arith in
    let one : written (b - 48) ≡ b ∷ [] = written_one (b - 48) (omega arith) ∙ ap (λ (x : ℕ). x ∷ []) e in
    subst (λ (xs : List ℕ). (n : ℕ) × (xs ++ rest ≡ written n)) one (written_onto rest (b - 48) (omega (arith, some)) both.1)

from_number : (bs : List ℕ) → is_number bs ≡ true → (n : ℕ) × (bs ≡ written n)
unfolding written
from_number [] h = absurd (both_ways false refl h)
from_number (b ∷ bs) h =
    let both = and_parts (begins_number (b ∷ bs)) (all_digits (b ∷ bs)) h in
    go (eqb b 48) refl both.0 both.1
  where
    go : (z : Bool) → eqb b 48 ≡ z → cond z (eqb (length (b ∷ bs)) 1) (ltb 0 (length (b ∷ bs))) ≡ true → all_digits (b ∷ bs) ≡ true → (n : ℕ) × (b ∷ bs ≡ written n)
    go true e alone all =
        let none : length bs ≡ 0 = omega (arith, eqb-true (length (b ∷ bs)) 1 alone) in
        (0, ap (λ (x : ℕ). x ∷ bs) (eqb-true b 48 e) ∙ ap (λ (xs : List ℕ). 48 ∷ xs) (nil_from_length bs none))
    go false e some all = longer b bs (eqb-false b 48 e) all

number_by : (bs : List ℕ) → AllByRecursion IsDigit bs → 48 < get_or bs 0 0 → is_number bs ≡ true
number_by [] all first = absurd (omega (arith, first))
number_by (b ∷ bs) all first =
    let begun : begins_number (b ∷ bs) ≡ true =
    ap (λ (z : Bool). cond z (eqb (length (b ∷ bs)) 1) (ltb 0 (length (b ∷ bs)))) (ne_eqb b 48 (λ e. omega (arith, first))) ∙ lt-ltb 0 (length (b ∷ bs)) (omega arith) in
    and_from (begins_number (b ∷ bs)) (all_digits (b ∷ bs)) begun (digits_from (b ∷ bs) all)

first_of : (ds : List ℕ) → 0 < get_or ds 0 0 → 48 < get_or (map (λ d. 48 + d) ds) 0 0
first_of [] h = absurd (omega (arith, h))
first_of (d ∷ ds) h = omega (arith, h)

pub number_written : (n : ℕ) → is_number (written n) ≡ true
unfolding written
number_written zero = refl
number_written (suc n) =
    let ds = digits_of 10 (suc n) in
    number_by (map (λ d. 48 + d) ds) (written_digits (suc n)) (first_of ds (first_digits_of 10 (suc n) (omega arith) (omega arith)))

-- ---- reading

-- what is written of a number is read as that number
pub numeral_written : (bs : List ℕ) (n : ℕ) → bs ≡ written n → numeral_of bs ≡ read n
numeral_written bs n e =
    ap numeral_of e
    ∙ (ap (λ (z : Bool). cond z (read (value_of (written n))) (Err NotANumber)) (number_written n)
    ∙ ap read (value_written n))

written_reads : (bs : List ℕ) (n : ℕ) → bs ≡ written n → Reads bs (read n)
written_reads bs n e =
    ⊎_elim
    (λ l. subst (Reads bs) (sym (ap (λ (z : Bool). ok_or (cond z (Some n) None) TooLarge) (lt-ltb n (2 ^ 64) l))) (some_number n e l))
    (λ l. subst (Reads bs) (sym (ap (λ (z : Bool). ok_or (cond z (Some n) None) TooLarge) (le-ltb n (2 ^ 64) l))) (large_number n e l))
    (cases_lt n (2 ^ 64))

told : (bs : List ℕ) → Reads bs (numeral_of bs)
told bs = go (is_number bs) refl
  where
    go : (z : Bool) → is_number bs ≡ z → Reads bs (numeral_of bs)
    go true h = let w = from_number bs h in subst (Reads bs) (sym (numeral_written bs w.0 w.1)) (written_reads bs w.0 w.1)
    go false h =
        subst (Reads bs) (sym (ap (λ (z : Bool). cond z (read (value_of bs)) (Err NotANumber)) h))
        (no_number (λ n e. both_ways (is_number bs) h (ap is_number e ∙ number_written n)))

pub stands : Stands
stands = record { written_so = from_number; of_the_form = number_written; one = same_from_written; reads = told; as_printed = same_decimal }

-- ---- the loop over the digits

pub value_more : (bs : List ℕ) (i : ℕ) → i < length bs → value_of (take (i + 1) bs) ≡ value_of (take i bs) * 10 + (get_or bs i 0 - 48)
value_more bs i l = ap (number_from_digits 10) (map_more (λ b. b - 48) bs i 0 l) ∙ number_push 10 (map (λ b. b - 48) (take i bs)) (get_or bs i 0 - 48)

-- a byte that is no digit
pub no_digits : (bs : List ℕ) (i : ℕ) → i < length bs → is_digit (get_or bs i 0) ≡ false → all_digits bs ≡ false
no_digits [] i l h = absurd (omega (arith, l))
no_digits (b ∷ bs) zero l h = and_left (is_digit b) (all_digits bs) h
no_digits (b ∷ bs) (suc i) l h = and_right (is_digit b) (all_digits bs) (no_digits bs i (omega (arith, l)) h)

pub digits_more : (bs : List ℕ) (i : ℕ) → i < length bs → all_digits (take i bs) ≡ true → is_digit (get_or bs i 0) ≡ true → all_digits (take (i + 1) bs) ≡ true
digits_more bs i l all one = ap all_digits (take_more bs i 0 l) ∙ push (take i bs) all
  where
    push : (xs : List ℕ) → all_digits xs ≡ true → all_digits (xs ++ (get_or bs i 0 ∷ [])) ≡ true
    push [] h = and_from (is_digit (get_or bs i 0)) true one refl
    push (x ∷ xs) h = let p = and_parts (is_digit x) (all_digits xs) h in and_from (is_digit x) (all_digits (xs ++ (get_or bs i 0 ∷ []))) p.0 (push xs p.1)
