-- A text cut in two at the place of the first byte of a kind. Assumes nothing.
use Rattle.std.proofs.Common.{◌≡◌, ℕ, suc, ◌+◌, Bool, true, false, cond, eqb, ltb, List, [], ◌∷◌, ◌++◌, length, take, drop, Some, None, Option, sym, refl, ap, ◌∙◌, add-one, arith}
use Rattle.std.specs.Option.{option_map}
use Rattle.std.specs.List.{AllByRecursion, position, position_or_len}
use Rattle.std.proofs.lemmas.Bool.{eqb-true, ne_eqb}
use Rattle.std.proofs.lemmas.Bool.Decides.{nat_tests}
use Rattle.numerals.specs.Decimal.{written}
use Rattle.numerals.specs.Fields.{cut_at, cut}
use Rattle.numerals.proofs.Numbers.{IsDigit, written_digits}

-- what stands before a place and after it
abbrev pub halves : List ℕ → ℕ → List ℕ × List ℕ
halves bs i = (take i bs, drop (i + 1) bs)

both_next : (k n : ℕ) → ltb (suc k) (suc n) ≡ ltb k n
both_next k n = grind (arith, nat_tests)

some_there : (n : ℕ) → ltb 0 (suc n) ≡ true
some_there n = grind (arith, nat_tests)

module _ (c : ℕ) where
  place_next : (b : ℕ) (bs : List ℕ) → eqb b c ≡ false → position_or_len (λ b. eqb b c) (b ∷ bs) ≡ suc (position_or_len (λ b. eqb b c) bs)
  place_next b bs e = rw e (omega arith)

  position_next : (b : ℕ) (bs : List ℕ) → eqb b c ≡ false → position (λ b. eqb b c) (b ∷ bs) ≡ option_map suc (position (λ b. eqb b c) bs)
  position_next b bs e =
      ap (λ (k : ℕ). cond (ltb k (length (b ∷ bs))) (Some k) None) (place_next b bs e)
      ∙ (ap (λ (z : Bool). cond z (Some (suc (position_or_len (λ b. eqb b c) bs))) None) (both_next (position_or_len (λ b. eqb b c) bs) (length bs)) ∙ go (ltb (position_or_len (λ b. eqb b c) bs) (length bs)))
    where
      go : (w : Bool) → cond w (Some (suc (position_or_len (λ b. eqb b c) bs))) None ≡ option_map suc (cond w (Some (position_or_len (λ b. eqb b c) bs)) None)
      go true = refl
      go false = refl

  further : (b : ℕ) (bs : List ℕ) (o : Option ℕ) → option_map (λ parts. (b ∷ parts.0, parts.1)) (option_map (halves bs) o) ≡ option_map (halves (b ∷ bs)) (option_map suc o)
  further b bs None = refl
  further b bs (Some i) = rw (add-one, add-one) refl

  pub by_place : (bs : List ℕ) → cut_at c bs ≡ option_map (halves bs) (position (λ b. eqb b c) bs)
  by_place [] = refl
  by_place (b ∷ bs) = go (eqb b c) refl (by_place bs)
    where
      go : (z : Bool) → eqb b c ≡ z → cut_at c bs ≡ option_map (halves bs) (position (λ b. eqb b c) bs) → cut_at c (b ∷ bs) ≡ option_map (halves (b ∷ bs)) (position (λ b. eqb b c) (b ∷ bs))
      go true e ih = rw (e, some_there (length bs))
      go false e ih =
          ap (λ (z : Bool). cond z (Some ([], bs)) (option_map (λ parts. (b ∷ parts.0, parts.1)) (cut_at c bs))) e
          ∙ (ap (option_map (λ parts. (b ∷ parts.0, parts.1))) ih
          ∙ (further b bs (position (λ b. eqb b c) bs) ∙ ap (option_map (halves (b ∷ bs))) (sym (position_next b bs e))))

-- a number up to a comma
cut_digits : (xs rest : List ℕ) → AllByRecursion IsDigit xs → cut (xs ++ (44 ∷ rest)) ≡ Some (xs, rest)
cut_digits [] rest all = refl
cut_digits (x ∷ xs) rest all =
    let first : eqb x 44 ≡ false = ne_eqb x 44 (λ e. omega (arith, all.0.0)) in
    rw (first, cut_digits xs rest all.1)

pub cut_written : (n : ℕ) (rest : List ℕ) → cut (written n ++ (44 ∷ rest)) ≡ Some (written n, rest)
cut_written n rest = cut_digits (written n) rest (written_digits n)

pub cut_sound : (bs : List ℕ) (p : List ℕ × List ℕ) → cut bs ≡ Some p → bs ≡ p.0 ++ (44 ∷ p.1)
cut_sound [] p e = let z : ◌≡◌ {A = ℕ} 0 1 = cc in absurd (omega arith)
cut_sound (b ∷ bs) p e = go (eqb b 44) refl (cut bs) refl (cut_sound bs) e
  where
    go : (z : Bool) → eqb b 44 ≡ z → (o : Option (List ℕ × List ℕ)) → cut bs ≡ o →
        ((q : List ℕ × List ℕ) → cut bs ≡ Some q → bs ≡ q.0 ++ (44 ∷ q.1)) →
        cond z (Some ([], bs)) (option_map (λ parts. (b ∷ parts.0, parts.1)) o) ≡ Some p → b ∷ bs ≡ p.0 ++ (44 ∷ p.1)
    go true c o oe ih f =
        let first : p.0 ≡ [] = cc in
        let rest : p.1 ≡ bs = cc in
        rw (first, rest, eqb-true b 44 c)
    go false c None oe ih f = let z : ◌≡◌ {A = ℕ} 0 1 = cc in absurd (omega arith)
    go false c (Some q) oe ih f =
        let first : p.0 ≡ b ∷ q.0 = cc in
        let rest : p.1 ≡ q.1 = cc in
        rw (first, rest) (ap (λ (xs : List ℕ). b ∷ xs) (ih q oe))
