use Rattle.std.proofs.Common.{◌≡◌, ℕ, ◌-◌, List, length, get_or, take, drop, sym, refl, ap, ◌∙◌, arith}
use Rattle.std.proofs.lemmas.List.{take_rest}
use Rattle.roster.specs.Spelling.{Kind, person, slot, Entry, letter}
use Rattle.roster.specs.Parts.{two, TwoNumbers, unended, Whole}
use Rattle.roster.proofs.line.RosterLine.of.Goals as goal

same_letter : (j k : Kind) → letter j ≡ letter k → j ≡ k
same_letter person person e = refl
same_letter person slot e = absurd (omega (arith, e))
same_letter slot person e = absurd (omega (arith, e))
same_letter slot slot e = refl

-- what stands after the letter and the comma
after_two : (line : List ℕ) (e : Entry) → line ≡ unended e → take (length line - 2) (drop 2 line) ≡ two e.number e.label
after_two line e is = take_rest line 2 ∙ ap (drop 2) is

two_after : (line : List ℕ) → Whole line → TwoNumbers (take (length line - 2) (drop 2 line))
two_after line w = record { first = w.entry.number; second = w.entry.label; is = after_two line w.entry w.is }

kind_of : (line : List ℕ) (e : Entry) (k : Kind) → line ≡ unended e → get_or line 0 0 ≡ letter k → e.kind ≡ k
kind_of line e k is h = same_letter e.kind k (sym (ap (λ (x : List ℕ). get_or x 0 0) is) ∙ h)

pub fields-requires : goal.fields-requires
fields-requires c = two_after c.args.line.now c.requires

pub fields-requires-in-83 : goal.fields-requires-in-83
fields-requires-in-83 c = two_after c.args.line.now c.requires

pub returns-in-80 : goal.returns-in-80
returns-in-80 c = λ e is.
    let line = c.args.line.now in
    let told = c.fields.ensures e.number e.label (after_two line e is) in
    let h : get_or line 0 0 ≡ 80 = omega arith in
    (kind_of line e person is h, told.0, told.1)

pub returns-in-83 : goal.returns-in-83
returns-in-83 c = λ e is.
    let line = c.args.line.now in
    let told = c.fields-in-83.ensures e.number e.label (after_two line e is) in
    let h : get_or line 0 0 ≡ 83 = omega arith in
    (kind_of line e slot is h, told.0, told.1)
