use Rattle.std.proofs.Common.{◌-◌, sym, refl, ap, ◌∙◌, arith}
use Rattle.sheets.specs.Programs.{Block}
use Rattle.running.specs.Running.{exec}
use Rattle.running.proofs.Keeping.{leaves}
use Rattle.running.proofs.Turning.{loop_looks, look_goes_on}
use Rattle.running.proofs.Parts.{body, chosen, ran_cut}
use Rattle.running.proofs.Opens.{spans, begins, if_parts, branch_forward, branch_linked, while_parts}
use Rattle.running.proofs.runner.+run_block_run_row.Goals as goal

pub run_block-run_row-requires : goal.run_block-run_row-requires
run_block-run_row-requires t c =
    let sheet = c.args.sheet.now in
    let l = c.loop-at.invariant.2 c.requires.block c.requires.linked in
    let here = begins sheet.rows.items sheet.jumps c.loop-at.at l.block c.args.to l.linked c.loop-at-test.true in (
      omega (arith, c.decreases, here.below),
      (here, record { block = l.block; to = c.args.to; linked = l.linked; some = c.loop-at-test.true }),
    )

pub run_block-returns : goal.run_block-returns
run_block-returns t c =
    let sheet = c.args.sheet.now in
    record {
      ran = λ b h.
          let l = c.loop-at.invariant.2 b h in
          let none = (spans sheet.rows.items sheet.jumps c.loop-at.at l.block c.args.to l.linked).none c.loop-at-test.false in
          sym (l.same ∙ ap (λ (x : Block). exec x c.loop-at.table.slots c.loop-at.left) none);
      people = c.loop-at.invariant.1;
    }

pub run_row-run_block-requires : goal.run_row-run_block-requires
run_row-run_block-requires t c =
    let sheet = c.args.sheet.now in
    let begun = c.requires.begun in
    let p = if_parts sheet.rows.items sheet.jumps c.args.at c.in-If.guard begun.block begun.to begun.linked begun.some (cc) in
    let forward = branch_forward sheet.rows.items sheet.jumps c.args.at c.in-If.guard begun.block begun.to p c.holds.result c.branch_rows-from.result c.branch_rows-from.ensures in (
      omega (arith, c.decreases, c.requires.here.below, forward),
      record {
        block = chosen c.holds.result begun.block;
        linked = branch_linked sheet.rows.items sheet.jumps c.args.at c.in-If.guard begun.block begun.to p c.holds.result c.branch_rows-from.result c.branch_rows-from.ensures;
      },
    )

pub run_row-returns-in_err-rest-in-If : goal.run_row-returns-in_err-rest-in-If
run_row-returns-in_err-rest-in-If t c =
    let sheet = c.args.sheet.now in
    record {
      ran = λ b to h lt.
          let p = if_parts sheet.rows.items sheet.jumps c.args.at c.in-If.guard b to h lt (cc) in
          let inner = branch_linked sheet.rows.items sheet.jumps c.args.at c.in-If.guard b to p c.holds.result c.branch_rows-from.result c.branch_rows-from.ensures in
          ran_cut sheet.rows.items sheet.jumps c.args.at b to c.args.table.now.slots c.args.turns c.from_residual.result c.run_block.new.table.slots c.from_residual.ensures.0
          (p.runs c.args.table.now.slots c.args.turns c.holds.result (sym c.holds.ensures) ∙ sym (c.in_err-rest-in-If.ensures.ran (chosen c.holds.result b) inner));
      people = c.in_err-rest-in-If.ensures.people;
    }

pub run_row-returns-in_ok-rest-in-If : goal.run_row-returns-in_ok-rest-in-If
run_row-returns-in_ok-rest-in-If t c =
    let sheet = c.args.sheet.now in
    record {
      ran = λ b to h lt.
          let p = if_parts sheet.rows.items sheet.jumps c.args.at c.in-If.guard b to h lt (cc) in
          let inner = branch_linked sheet.rows.items sheet.jumps c.args.at c.in-If.guard b to p c.holds.result c.branch_rows-from.result c.branch_rows-from.ensures in (
            p.runs c.args.table.now.slots c.args.turns c.holds.result (sym c.holds.ensures) ∙ sym (c.in_ok-rest-in-If.ensures.ran (chosen c.holds.result b) inner),
            p.next,
            omega (arith, p.later, p.later_end),
          );
      people = c.in_ok-rest-in-If.ensures.people;
    }

pub run_row-returns-in_err-left-in-While : goal.run_row-returns-in_err-left-in-While
run_row-returns-in_err-left-in-While t c =
    let sheet = c.args.sheet.now in
    record {
      ran = λ b to h lt.
          let q = while_parts sheet.rows.items sheet.jumps c.args.at c.in-While.guard b to h lt (cc) in
          ran_cut sheet.rows.items sheet.jumps c.args.at b to c.args.table.now.slots c.args.turns c.from_residual-in_err-left-in-While.result c.run_block-in-loop-at.new.table.slots c.from_residual-in_err-left-in-While.ensures.0
          ((c.loop-at.invariant.1 b to h lt).same ∙ look_goes_on c.in-While.guard (body b) c.loop-at.table.slots c.loop-at.left _ (sym c.holds-in-loop-at.ensures ∙ c.loop-at-test.true) (omega arith) (c.in_err-left-in-While.ensures.ran (body b) q.inner));
      people = c.in_err-left-in-While.ensures.people ∙ c.loop-at.invariant.0;
    }

pub run_row-loop-at-init : goal.run_row-loop-at-init
run_row-loop-at-init t c =
    let sheet = c.args.sheet.now in (
      refl,
      λ b to h lt. (while_parts sheet.rows.items sheet.jumps c.args.at c.in-While.guard b to h lt (cc)).looks c.args.table.now.slots c.args.turns,
    )

pub run_row-loop-at-smaller : goal.run_row-loop-at-smaller
run_row-loop-at-smaller t c =
    let sheet = c.args.sheet.now in
    let begun = c.requires.begun in
    let p = while_parts sheet.rows.items sheet.jumps c.args.at c.in-While.guard begun.block begun.to begun.linked begun.some (cc) in
    let fewer = leaves (body begun.block) c.loop-at.table.slots c.run_block-in-loop-at.new.table.slots (c.loop-at.left - 1) c.in_ok-left-in-While.left (c.in_ok-left-in-While.ensures.ran (body begun.block) p.inner) in
    omega (arith, fewer)

pub run_row-loop-at-preserved : goal.run_row-loop-at-preserved
run_row-loop-at-preserved t c =
    let sheet = c.args.sheet.now in (
      c.in_ok-left-in-While.ensures.people ∙ c.loop-at.invariant.0,
      λ b to h lt.
          let q = while_parts sheet.rows.items sheet.jumps c.args.at c.in-While.guard b to h lt (cc) in
          let l = c.loop-at.invariant.1 b to h lt in
          record {
            same = l.same
                ∙ (look_goes_on c.in-While.guard (body b) c.loop-at.table.slots c.loop-at.left _ (sym c.holds-in-loop-at.ensures ∙ c.loop-at-test.true) (omega arith) (c.in_ok-left-in-While.ensures.ran (body b) q.inner)
                ∙ loop_looks c.in-While.guard (body b) c.run_block-in-loop-at.new.table.slots c.in_ok-left-in-While.left);
            next = l.next;
            later = l.later;
          },
    )
