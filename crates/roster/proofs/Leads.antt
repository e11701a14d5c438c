-- The first line of a text: what it is, or how far it is of the form. Assumes nothing.
use Rattle.std.proofs.Common.{◌≡◌, ℕ, zero, suc, ◌+◌, ◌*◌, ◌/◌, ◌%◌, ◌<◌, ◌≤◌, List, [], ◌∷◌, ◌++◌, sym, refl, ap, ◌∙◌, subst, ⊎_elim, arith}
use Rattle.std.proofs.lemmas.List.{append_assoc, append-nil}
use Rattle.std.proofs.lemmas.Bool.{cases_lt}
use Rattle.numerals.specs.Decimal.{written}
use Rattle.numerals.proofs.Numbers.{written_one, written_grown}
use Rattle.roster.specs.Spelling.{Kind, person, slot, Entry, letter, spell, May}
use Rattle.roster.specs.Reading.{Place, start, letter_of, comma, number, comma_after, label, Next, never, more, whole, after}
use Rattle.roster.proofs.Front.{so_far, Adds, adds, after_comma, after_number, after_second, after_label}

pub data Lead : Type 0 where
  found : Entry → List ℕ → Lead
  stuck : ℕ → Lead

-- from a place, k bytes after the line's start
abbrev pub lead : Place → ℕ → List ℕ → Lead
lead p k [] = stuck k
lead p k (b ∷ bs) = elim (after p b) [ never ↦ stuck k | more q ↦ lead q (suc k) bs | whole e ↦ found e bs ]

-- what a next byte comes to
abbrev pub led : Next → ℕ → List ℕ → Lead
led never k bs = stuck k
led (more q) k bs = lead q (suc k) bs
led (whole e) k bs = found e bs

pub lead_step : (p : Place) (k b : ℕ) (bs : List ℕ) (n : Next) → after p b ≡ n → lead p k (b ∷ bs) ≡ led n k bs
lead_step p k b bs never e = ap (λ (x : Next). elim x [ never ↦ stuck k | more q ↦ lead q (suc k) bs | whole z ↦ found z bs ]) e
lead_step p k b bs (more q) e = ap (λ (x : Next). elim x [ never ↦ stuck k | more q ↦ lead q (suc k) bs | whole z ↦ found z bs ]) e
lead_step p k b bs (whole z) e = ap (λ (x : Next). elim x [ never ↦ stuck k | more q ↦ lead q (suc k) bs | whole z ↦ found z bs ]) e

-- the bytes xs lead from p to q
abbrev pub Along : Place → List ℕ → Place → Type 0
Along p xs q = (k : ℕ) (rest : List ℕ) → (j : ℕ) × (lead p k (xs ++ rest) ≡ lead q j rest)

along_one : (p q : Place) (b : ℕ) → after p b ≡ more q → Along p (b ∷ []) q
along_one p q b e = λ k rest. (suc k, lead_step p k b rest (more q) e)

along_then : (p q r : Place) (xs ys : List ℕ) → Along p xs q → Along q ys r → Along p (xs ++ ys) r
along_then p q r xs ys f g = λ k rest.
    let u = f k (ys ++ rest) in
    let v = g u.0 rest in
    (v.0, ap (lead p k) (append_assoc xs ys rest) ∙ (u.1 ∙ v.1))

-- a number from its first is-digit to its last
along_digits : (p : Place) (at : ℕ → Place) → ((d : ℕ) → d < 10 → after p (48 + d) ≡ more (at d)) → ((n d : ℕ) → 0 < n → d < 10 → after (at n) (48 + d) ≡ more (at (n * 10 + d))) → (f n : ℕ) → n ≤ f → Along p (written n) (at n)
along_digits p at one next zero n le =
    let l : n < 10 = omega arith in
    subst (λ (xs : List ℕ). Along p xs (at n)) (sym (written_one n l)) (along_one p (at n) (48 + n) (one n l))
along_digits p at one next (suc f) n le =
    let q = n / 10 in
    let r = n % 10 in
    let small : r < 10 = omega arith in
    let whole_again : q * 10 + r ≡ n = omega arith in
    let rest : 10 ≤ n → Along p (written q) (at q) = λ l. along_digits p at one next f q (omega arith) in
    ⊎_elim
    (λ l. subst (λ (xs : List ℕ). Along p xs (at n)) (sym (written_one n l)) (along_one p (at n) (48 + n) (one n l)))
    (λ l.
    let some : 0 < q = omega arith in
    subst (λ (x : ℕ). Along p (written x) (at x)) whole_again
    (subst (λ (xs : List ℕ). Along p xs (at (q * 10 + r))) (sym (written_grown q r some small))
    (along_then p (at q) (at (q * 10 + r)) (written q) ((48 + r) ∷ []) (rest l) (along_one (at q) (at (q * 10 + r)) (48 + r) (next q r some small)))))
    (cases_lt n 10)

reach_letter : (k : Kind) → Along start (so_far (letter_of k)) (letter_of k)
reach_letter person = along_one start (letter_of person) 80 refl
reach_letter slot = along_one start (letter_of slot) 83 refl

reach_comma : (k : Kind) → Along start (so_far (comma k)) (comma k)
reach_comma k = along_then start (letter_of k) (comma k) (letter k ∷ []) (44 ∷ []) (reach_letter k) (along_one (letter_of k) (comma k) 44 refl)

reach_number : (k : Kind) (n : ℕ) → Along start (so_far (number k n)) (number k n)
reach_number k n =
    along_then start (comma k) (number k n) (letter k ∷ 44 ∷ []) (written n) (reach_comma k) (along_digits (comma k) (number k) (after_comma k) (after_number k) n n (omega arith))

reach_second : (k : Kind) (n : ℕ) → Along start (so_far (comma_after k n)) (comma_after k n)
reach_second k n =
    along_then start (number k n) (comma_after k n) (letter k ∷ 44 ∷ written n) (44 ∷ []) (reach_number k n) (along_one (number k n) (comma_after k n) 44 refl)

reach_label : (k : Kind) (n m : ℕ) → Along start (so_far (label k n m)) (label k n m)
reach_label k n m =
    subst (λ (xs : List ℕ). Along start (letter k ∷ 44 ∷ xs) (label k n m)) (append_assoc (written n) (44 ∷ []) (written m))
    (along_then start (comma_after k n) (label k n m) (letter k ∷ 44 ∷ (written n ++ (44 ∷ []))) (written m) (reach_second k n) (along_digits (comma_after k n) (label k n) (after_second k n) (after_label k n) m m (omega arith)))

-- what was said so far leads to its place
pub reach : (p : Place) → Along start (so_far p) p
reach start = λ k rest. (k, refl)
reach (letter_of k) = reach_letter k
reach (comma k) = reach_comma k
reach (number k n) = reach_number k n
reach (comma_after k n) = reach_second k n
reach (label k n m) = reach_label k n m

-- a line's spelling leads to it
pub lead_spell : (e : Entry) (rest : List ℕ) → lead start 0 (spell e ++ rest) ≡ found e rest
lead_spell e rest =
    let p = label e.kind e.number e.label in
    let u = reach p 0 (10 ∷ rest) in
    ap (λ (xs : List ℕ). lead start 0 (xs ++ rest)) (adds p 10)
    ∙ (ap (lead start 0) (append_assoc (so_far p) (10 ∷ []) rest)
    ∙ (u.1 ∙ lead_step p u.0 10 rest (whole e) refl))

-- no line has a byte where the reading of it stops
pub never_may : (p : Place) (b : ℕ) → after p b ≡ never → May (so_far p) b → ⊥
never_may p b stop m =
    let u = reach p 0 (b ∷ m.1) in
    let to : found m.0 [] ≡ stuck u.0 =
    sym (lead_spell m.0 []) ∙ (ap (lead start 0) (append-nil (spell m.0) ∙ m.2) ∙ (u.1 ∙ lead_step p u.0 b m.1 never stop)) in
    let z : ◌≡◌ {A = ℕ} 0 1 = cc in
    omega arith

-- what leads to a line is its spelling
pub found_is : (bs : List ℕ) (p : Place) (k : ℕ) (e : Entry) (rest : List ℕ) → lead p k bs ≡ found e rest → so_far p ++ bs ≡ spell e ++ rest
found_is [] p k e rest h = let z : ◌≡◌ {A = ℕ} 0 1 = cc in absurd (omega arith)
found_is (b ∷ bs) p k e rest h = go (after p b) refl (λ q. found_is bs q (suc k) e rest)
  where
    go : (n : Next) → after p b ≡ n → ((q : Place) → lead q (suc k) bs ≡ found e rest → so_far q ++ bs ≡ spell e ++ rest) → so_far p ++ (b ∷ bs) ≡ spell e ++ rest
    go never stop on = let s = lead_step p k b bs never stop in let z : ◌≡◌ {A = ℕ} 0 1 = cc in absurd (omega arith)
    go (more q) step on =
        let s = lead_step p k b bs (more q) step in
        let a : so_far q ≡ so_far p ++ (b ∷ []) = subst (Adds p b) step (adds p b) in
        sym (append_assoc (so_far p) (b ∷ []) bs) ∙ (ap (λ (xs : List ℕ). xs ++ bs) (sym a) ∙ on q (sym s ∙ h))
    go (whole z) step on =
        let s = lead_step p k b bs (whole z) step in
        let a : spell z ≡ so_far p ++ (b ∷ []) = subst (Adds p b) step (adds p b) in
        let same : z ≡ e = cc in
        let tail : bs ≡ rest = cc in
        sym (append_assoc (so_far p) (b ∷ []) bs) ∙ (ap (λ (xs : List ℕ). xs ++ bs) (sym a) ∙ (ap (λ (x : Entry). spell x ++ bs) same ∙ ap (λ (xs : List ℕ). spell e ++ xs) tail))
