use Rattle.std.proofs.Common.{◌≡◌, ℕ, ◌-◌, ◌<◌, List, ◌∷◌, length, get_or, take, drop, Option, sym, ap, ◌∙◌, arith}
use Rattle.std.specs.Option.{option_map}
use Rattle.std.proofs.lemmas.Bool.{ltb-false}
use Rattle.noninterference.specs.Monitor.{Call}
use Rattle.console.specs.Clipping.{clipped}
use Rattle.console.specs.Reading.{call_in}
use Rattle.console.proofs.Clipping.{lay_whole, view_whole}
use Rattle.console.proofs.Cutting.{two_and_rest}
use Rattle.console.proofs.reader.CallReader.read.Goals as goal

-- a letter and a comma before the fields
lettered : (line : List ℕ) (letter : ℕ) → 1 < length line → get_or line 0 0 ≡ letter → get_or line 1 0 ≡ 44 →
    call_in line ≡ call_in (letter ∷ 44 ∷ take (length line - 2) (drop 2 line))
lettered line letter l first second =
    ap call_in (two_and_rest line l)
    ∙ (ap (λ (b : ℕ). call_in (b ∷ get_or line 1 0 ∷ take (length line - 2) (drop 2 line))) first
    ∙ ap (λ (b : ℕ). call_in (letter ∷ b ∷ take (length line - 2) (drop 2 line))) second)

-- the same of calls that are kept as they are
whole : (most : ℕ) (o p q : Option Call) → o ≡ p → option_map (clipped most) p ≡ p → q ≡ p → o ≡ option_map (clipped most) q
whole most o p q e same r = e ∙ (sym same ∙ ap (option_map (clipped most)) (sym r))

pub returns-in-82 : goal.returns-in-82
returns-in-82 c =
    let line = c.args.line.now in
    c.read_run.ensures ∙ ap (option_map (clipped (2049))) (sym (lettered line 82 (omega (arith, ltb-false)) (omega arith) (omega arith)))

pub returns-in-76 : goal.returns-in-76
returns-in-76 c =
    let line = c.args.line.now in
    let most : ℕ = 2049 in
    whole most _ _ (call_in line) c.read_lay.ensures (lay_whole most (take (length line - 2) (drop 2 line))) (lettered line 76 (omega (arith, ltb-false)) (omega arith) (omega arith))

pub returns-in-86 : goal.returns-in-86
returns-in-86 c =
    let line = c.args.line.now in
    let most : ℕ = 2049 in
    whole most _ _ (call_in line) c.read_view.ensures (view_whole most (take (length line - 2) (drop 2 line))) (lettered line 86 (omega (arith, ltb-false)) (omega arith) (omega arith))
