use Rattle.std.proofs.Common.{ℕ, List, ◌+◌, take, drop, Some, sym, ap, ◌∙◌, rules}
use Rattle.std.proofs.lemmas.List.{take_rest}
use Rattle.std.specs.Option.{option_map}
use Rattle.numerals.proofs.Cutting.{by_place}
use Rattle.numerals.proofs.fields.cut_at.Goals as goal

pub returns-in_err-at : goal.returns-in_err-at
returns-in_err-at c =
    let text = c.args.text.now in
    let none = by_place c.args.byte text ∙ ap (option_map (λ i. (take i text, drop (i + 1) text))) (sym c.in_err-at.ensures) in
    search rules

pub returns : goal.returns
returns c =
    let text = c.args.text.now in
    let at = c.in_ok-at.at in
    by_place c.args.byte text
    ∙ (ap (option_map (λ i. (take i text, drop (i + 1) text))) (sym c.in_ok-at.ensures)
    ∙ ap (λ (rest : List ℕ). Some (take at text, rest)) (sym (take_rest text (at + 1))))
