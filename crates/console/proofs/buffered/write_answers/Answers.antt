use Rattle.std.proofs.Common.{List, ℕ, ap, sym, ◌++◌, ◌∙◌}
use Rattle.console.specs.Onward.{to_print}
use Rattle.console.proofs.Filled.{none_yet, one_more}
use Rattle.console.proofs.buffered.write_answers.Goals as goal

pub loop-reply-init : goal.loop-reply-init
loop-reply-init c =
    rw c.into_iter-reply-iterator.ensures.into_iter_gives (none_yet c.args.out.now c.new-reply-items.ensures.0 c.new-reply-items.ensures.1 c.requires)

pub loop-reply-preserved : goal.loop-reply-preserved
loop-reply-preserved c =
    let rest = to_print c.next.new.self.window.monitor.table c.next.new.self.left.now in
    one_more c.loop-reply.invariant (c.in-Some.ensures.steps.0 ∙ ap (λ (line : List ℕ). line ++ rest) (sym (c.as_str.ensures.value ∙ c.line_of.ensures))) c.in-Some.ensures.steps.1 c.as_str.ensures.fits
    c.write-end.ensures c.write-end.auto.out
