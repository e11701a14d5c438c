use Rattle.std.proofs.Common.{map, subst, rules}
use Rattle.std.proofs.lemmas.Fn.{fold_over, slice_gives, fronts}
use Rattle.table.specs.Slots.{label_at}
use Rattle.judging.proofs.Reading.{Source, source_none, source_more, source_all}
use Rattle.judging.proofs.verdict.Judge.set_verdict.Goals as goal

pub returns : goal.returns
returns g c =
    let judge = c.args.self.now in
    let flows = g.S.Scheme.flows judge.scheme.now in
    let Γ = label_at judge.table.now.slots in
    let γ = c.args.control in
    let law = g.met.S.Scheme.lawful judge.scheme.now in
    let all = fold_over fronts (λ y. y.now) _ (λ slots source. Source flows γ (map Γ slots) source) _
    (λ slots source slot next f' so_far k. let more = source_more law Γ γ slots source slot.now next so_far in search rules)
    _ _ _ _ (slice_gives c.iter.result) (source_none flows γ (search rules)) c.fold-source.ensures.ran in
    let whole = subst (λ slots. Source flows γ (map Γ slots) c.fold-source.result) c.iter.ensures.rest all in
    let e = source_all flows c.label.result (search rules) whole in
    cc
