-- What a line has said so far, as bytes, and how one byte adds to it. Assumes nothing.
use Rattle.std.proofs.Common.{◌≡◌, ℕ, ◌+◌, ◌-◌, ◌*◌, ◌<◌, Bool, true, false, cond, not, ◌&&◌, eqb, List, [], ◌∷◌, ◌++◌, sym, refl, ap, ◌∙◌, arith}
use Rattle.std.proofs.lemmas.List.{append_assoc}
use Rattle.std.proofs.lemmas.Bool.{cond_both, and_parts, not-true, eqb-true, eqb-false, ne_eqb}
use Rattle.numerals.specs.Decimal.{written}
use Rattle.numerals.specs.Numerals.{is_digit}
use Rattle.numerals.proofs.Numbers.{written_one, written_grown, digit_bounds, digit_from}
use Rattle.roster.specs.Spelling.{Kind, person, slot, letter, spell, May}
use Rattle.roster.specs.Reading.{Place, start, letter_of, comma, number, comma_after, label, Next, never, more, whole, grown, after}
use Rattle.roster.specs.Parts.{two, unended}

abbrev pub so_far : Place → List ℕ
so_far start = []
so_far (letter_of k) = letter k ∷ []
so_far (comma k) = letter k ∷ 44 ∷ []
so_far (number k n) = letter k ∷ 44 ∷ written n
so_far (comma_after k n) = letter k ∷ 44 ∷ (written n ++ (44 ∷ []))
so_far (label k n m) = letter k ∷ 44 ∷ two n m

-- the byte b after what was said is what is said then
abbrev pub Adds : Place → ℕ → Next → Type 0
Adds p b never = Unit {0}
Adds p b (more q) = so_far q ≡ so_far p ++ (b ∷ [])
Adds p b (whole e) = spell e ≡ so_far p ++ (b ∷ [])

-- ---- digits

one_digit : (b : ℕ) → is_digit b ≡ true → written (b - 48) ≡ b ∷ []
one_digit b h =
    let p = digit_bounds b h in
    let e : 48 + (b - 48) ≡ b = omega arith in
    written_one (b - 48) (omega arith) ∙ ap (λ (x : ℕ). x ∷ []) e

more_digits : (n b : ℕ) → (is_digit b && not (eqb n 0)) ≡ true → written (n * 10 + (b - 48)) ≡ written n ++ (b ∷ [])
more_digits n b h =
    let q = and_parts (is_digit b) (not (eqb n 0)) h in
    let p = digit_bounds b q.0 in
    let z = eqb-false n 0 (not-true (eqb n 0) q.1) in
    let e : 48 + (b - 48) ≡ b = omega arith in
    written_grown n (b - 48) (omega arith) (omega arith) ∙ ap (λ (x : ℕ). written n ++ (x ∷ [])) e

pub adds : (p : Place) (b : ℕ) → Adds p b (after p b)
adds start b =
    cond_both (eqb b 80) (more (letter_of person)) (cond (eqb b 83) (more (letter_of slot)) never) (Adds start b)
    (λ e. ap (λ (x : ℕ). x ∷ []) (sym (eqb-true b 80 e)))
    (λ _. cond_both (eqb b 83) (more (letter_of slot)) never (Adds start b) (λ e. ap (λ (x : ℕ). x ∷ []) (sym (eqb-true b 83 e))) (λ _. tt))
adds (letter_of k) b =
    cond_both (eqb b 44) (more (comma k)) never (Adds (letter_of k) b) (λ e. ap (λ (x : ℕ). letter k ∷ x ∷ []) (sym (eqb-true b 44 e))) (λ _. tt)
adds (comma k) b =
    cond_both (is_digit b) (more (number k (b - 48))) never (Adds (comma k) b) (λ e. ap (λ (x : List ℕ). letter k ∷ 44 ∷ x) (one_digit b e)) (λ _. tt)
adds (number k n) b =
    cond_both (eqb b 44) (more (comma_after k n)) (grown n b (number k)) (Adds (number k n) b)
    (λ e. ap (λ (x : ℕ). letter k ∷ 44 ∷ (written n ++ (x ∷ []))) (sym (eqb-true b 44 e)))
    (λ _. cond_both (is_digit b && not (eqb n 0)) (more (number k (n * 10 + (b - 48)))) never (Adds (number k n) b) (λ e. ap (λ (x : List ℕ). letter k ∷ 44 ∷ x) (more_digits n b e)) (λ _. tt))
adds (comma_after k n) b =
    cond_both (is_digit b) (more (label k n (b - 48))) never (Adds (comma_after k n) b)
    (λ e. ap (λ (x : List ℕ). letter k ∷ 44 ∷ (written n ++ (44 ∷ x))) (one_digit b e) ∙ ap (λ (x : List ℕ). letter k ∷ 44 ∷ x) (sym (append_assoc (written n) (44 ∷ []) (b ∷ []))))
    (λ _. tt)
adds (label k n m) b =
    cond_both (eqb b 10) (whole (record { kind = k; number = n; label = m })) (grown m b (label k n)) (Adds (label k n m) b)
    (λ e.
    ap (λ (x : ℕ). letter k ∷ 44 ∷ (written n ++ (44 ∷ (written m ++ (x ∷ []))))) (sym (eqb-true b 10 e))
    ∙ ap (λ (x : List ℕ). letter k ∷ 44 ∷ x) (sym (append_assoc (written n) (44 ∷ written m) (b ∷ []))))
    (λ _.
    cond_both (is_digit b && not (eqb m 0)) (more (label k n (m * 10 + (b - 48)))) never (Adds (label k n m) b)
    (λ e.
    ap (λ (x : List ℕ). letter k ∷ 44 ∷ (written n ++ (44 ∷ x))) (more_digits m b e)
    ∙ ap (λ (x : List ℕ). letter k ∷ 44 ∷ x) (sym (append_assoc (written n) (44 ∷ written m) (b ∷ []))))
    (λ _. tt))

-- a line that is whole with the next byte
abbrev pub Ends : Place → Next → Type 0
Ends p never = Unit {0}
Ends p (more q) = Unit {0}
Ends p (whole e) = so_far p ≡ unended e

goes_on : (p q : Place) (z : Bool) → Ends p (cond z (more q) never)
goes_on p q true = tt
goes_on p q false = tt

pub ends : (p : Place) (b : ℕ) → Ends p (after p b)
ends start b =
    cond_both (eqb b 80) (more (letter_of person)) (cond (eqb b 83) (more (letter_of slot)) never) (Ends start) (λ _. tt) (λ _. goes_on start (letter_of slot) (eqb b 83))
ends (letter_of k) b = goes_on (letter_of k) (comma k) (eqb b 44)
ends (comma k) b = goes_on (comma k) (number k (b - 48)) (is_digit b)
ends (number k n) b =
    cond_both (eqb b 44) (more (comma_after k n)) (grown n b (number k)) (Ends (number k n)) (λ _. tt) (λ _. goes_on (number k n) (number k (n * 10 + (b - 48))) (is_digit b && not (eqb n 0)))
ends (comma_after k n) b = goes_on (comma_after k n) (label k n (b - 48)) (is_digit b)
ends (label k n m) b =
    cond_both (eqb b 10) (whole (record { kind = k; number = n; label = m })) (grown m b (label k n)) (Ends (label k n m)) (λ _. refl)
    (λ _. goes_on (label k n m) (label k n (m * 10 + (b - 48))) (is_digit b && not (eqb m 0)))

-- every place can be gone on from
pub opens : (p : Place) → (b : ℕ) × May (so_far p) b
unfolding written
opens start = (80, (record { kind = person; number = 0; label = 0 }, 44 ∷ 48 ∷ 44 ∷ 48 ∷ 10 ∷ [], refl))
opens (letter_of k) = (44, (record { kind = k; number = 0; label = 0 }, 48 ∷ 44 ∷ 48 ∷ 10 ∷ [], refl))
opens (comma k) = (48, (record { kind = k; number = 0; label = 0 }, 44 ∷ 48 ∷ 10 ∷ [], refl))
opens (number k n) = (44, (record { kind = k; number = n; label = 0 }, 48 ∷ 10 ∷ [], refl))
opens (comma_after k n) = (48, (record { kind = k; number = n; label = 0 }, 10 ∷ [], ap (λ (x : List ℕ). letter k ∷ 44 ∷ x) (sym (append_assoc (written n) (44 ∷ []) (48 ∷ 10 ∷ [])))))
opens (label k n m) = (10, (record { kind = k; number = n; label = m }, [], ap (λ (x : List ℕ). letter k ∷ 44 ∷ x) (sym (append_assoc (written n) (44 ∷ written m) (10 ∷ [])))))

-- nothing may be 256
pub past_end : (p : Place) → after p 256 ≡ never
past_end start = refl
past_end (letter_of k) = refl
past_end (comma k) = refl
past_end (number k n) = refl
past_end (comma_after k n) = refl
past_end (label k n m) = refl

-- ---- the digits of a number, one after the other

digit_byte : (d : ℕ) → d < 10 → is_digit (48 + d) ≡ true
digit_byte d l = digit_from (48 + d) (omega arith, omega arith)

figure_of : (d : ℕ) → 48 + d - 48 ≡ d
figure_of d = omega arith

first_digit : (at : ℕ → Place) (d : ℕ) → d < 10 → cond (is_digit (48 + d)) (more (at (48 + d - 48))) never ≡ more (at d)
first_digit at d l = ap (λ (z : Bool). cond z (more (at (48 + d - 48))) never) (digit_byte d l) ∙ ap (λ (x : ℕ). more (at x)) (figure_of d)

next_digit : (at : ℕ → Place) (stop : Next) (sep n d : ℕ) → sep < 48 → 0 < n → d < 10 → cond (eqb (48 + d) sep) stop (grown n (48 + d) at) ≡ more (at (n * 10 + d))
next_digit at stop sep n d low h l =
    ap (λ (z : Bool). cond z stop (grown n (48 + d) at)) (ne_eqb (48 + d) sep (λ e. omega arith))
    ∙ (ap (λ (z : Bool). cond (z && not (eqb n 0)) (more (at (n * 10 + (48 + d - 48)))) never) (digit_byte d l)
    ∙ (ap (λ (z : Bool). cond (not z) (more (at (n * 10 + (48 + d - 48)))) never) (ne_eqb n 0 (λ e. omega arith))
    ∙ ap (λ (x : ℕ). more (at (n * 10 + x))) (figure_of d)))

pub after_comma : (k : Kind) (d : ℕ) → d < 10 → after (comma k) (48 + d) ≡ more (number k d)
after_comma k d l = first_digit (number k) d l

pub after_number : (k : Kind) (n d : ℕ) → 0 < n → d < 10 → after (number k n) (48 + d) ≡ more (number k (n * 10 + d))
after_number k n d h l = next_digit (number k) (more (comma_after k n)) 44 n d (omega arith) h l

pub after_second : (k : Kind) (n d : ℕ) → d < 10 → after (comma_after k n) (48 + d) ≡ more (label k n d)
after_second k n d l = first_digit (label k n) d l

pub after_label : (k : Kind) (n m d : ℕ) → 0 < m → d < 10 → after (label k n m) (48 + d) ≡ more (label k n (m * 10 + d))
after_label k n m d h l = next_digit (label k n) (whole (record { kind = k; number = n; label = m })) 10 m d (omega arith) h l
