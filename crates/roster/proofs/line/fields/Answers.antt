use Rattle.std.proofs.Common.{◌≡◌, ℕ, List, Some, None, Option, refl, ap, ◌∙◌, arith}
use Rattle.std.specs.Option.{MatchOption, IsSome}
use Rattle.numerals.specs.Decimal.{written}
use Rattle.numerals.specs.Fields.{cut}
use Rattle.numerals.proofs.Cutting.{cut_written}
use Rattle.roster.specs.Parts.{two}
use Rattle.roster.proofs.line.fields.Goals as goal

-- the first comma stands between the two numbers
two_cut : (rest : List ℕ) (n m : ℕ) → rest ≡ two n m → cut rest ≡ Some (written n, written m)
two_cut rest n m is = ap cut is ∙ cut_written n (written m)

module _ {A : Type 0} (f : A → List ℕ × List ℕ) (r : Option (List ℕ × List ℕ)) (p : List ℕ × List ℕ) (e : r ≡ Some p) where
  is_cut : (o : Option A) → MatchOption o (r ≡ None) (λ x. r ≡ Some (f x)) → IsSome o
  is_cut None m = let z : ◌≡◌ {A = ℕ} 0 1 = cc in absurd (omega arith)
  is_cut (Some x) m = refl

  cut_parts : (o : Option A) (x : A) → MatchOption o (r ≡ None) (λ x. r ≡ Some (f x)) → o ≡ Some x → f x ≡ p
  cut_parts None x m s = let z : ◌≡◌ {A = ℕ} 0 1 = cc in absurd (omega arith)
  cut_parts (Some y) x m s = cc

pub unwrap-requires : goal.unwrap-requires
unwrap-requires c =
    let w = c.requires in
    is_cut (λ parts. (parts.0.now, parts.1.now)) _ (written w.first, written w.second) (two_cut c.args.rest.now w.first w.second w.is) c.cut_at.result c.cut_at.ensures

pub returns : goal.returns
returns c = λ n m e.
    let parts = cut_parts (λ parts. (parts.0.now, parts.1.now)) _ (written n, written m) (two_cut c.args.rest.now n m e) c.cut_at.result c.unwrap.result c.cut_at.ensures c.unwrap.ensures in
    (ap (λ (p : List ℕ × List ℕ). p.0) parts, ap (λ (p : List ℕ × List ℕ). p.1) parts)
