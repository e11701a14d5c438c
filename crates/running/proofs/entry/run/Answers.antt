use Rattle.std.proofs.Common.{ℕ, List, Option, ap, ◌∙◌, arith}
use Rattle.running.specs.Running.{Outcome}
use Rattle.running.specs.Links.{outcome}
use Rattle.running.specs.Entry.{ran}
use Rattle.running.proofs.Standing.{stood, is_run, leaves_few}
use Rattle.running.proofs.entry.run.Goals as goal

pub run_block-ended-requires : goal.run_block-ended-requires
run_block-ended-requires c = rw c.len.ensures.value (stood c.args.sheet.now (omega arith))

pub settle-requires : goal.settle-requires
settle-requires c =
    let runs = rw c.len.ensures.value at c.run_block-ended.ensures.ran in
    λ left e. leaves_few c.args.sheet.now (omega arith) c.args.table.now.slots c.run_block-ended.new.table.slots c.args.turns left c.run_block-ended.result runs e

pub returns : goal.returns
returns c =
    let before = c.args.table.now in
    let runs = rw c.len.ensures.value at c.run_block-ended.ensures.ran in
    let o : Outcome = outcome c.run_block-ended.result c.run_block-ended.new.table.slots in
    let kept = ap (λ (p : List (Option ℕ)). ran o (record { people = p; slots = before.slots }) c.args.turns) c.run_block-ended.ensures.people in
    is_run c.args.sheet.now (omega arith) before c.args.turns o c.settle.result c.settle.new.table runs (c.settle.ensures ∙ kept)
