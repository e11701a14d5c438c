use Rattle.std.proofs.Common.{length, get_or, sym, arith}
use Rattle.std.proofs.lemmas.List.{at_drop_all}
use Rattle.std.proofs.lemmas.Bool.{or_from, or_left, or_right}
use Rattle.console.specs.Lines.{is_letter}
use Rattle.console.proofs.Splitting.{size, cut_there, one_more, no_more}
use Rattle.console.proofs.lines.roster_size.Goals as goal
use Rattle.console.proofs.lines.roster_size.Goals.{else-not-in_line-via-then-not-in_line+else-not-letter, else-not-in_line-via-else-not-in_line}

pub returns-then-not-letter : goal.returns-then-not-letter
returns-then-not-letter c =
    let input = c.args.input.now in
    let i = c.loop-i.i in
    let in_line = c.loop-i.in_line in
    let other = or_from in_line (is_letter (get_or input i 0)) c.if-not-in_line.true (sym c.if-not-letter.ensures) in
    let there = cut_there input i (no_more input in_line i c.loop-i-test.true c.loop-i.invariant other) in
    record { within = omega arith; roster = there.0; calls = there.1 }

pub loop-i-preserved : goal.loop-i-preserved
loop-i-preserved c =
    let input = c.args.input.now in
    let i = c.loop-i.i in
    let in_line = c.loop-i.in_line in
    let on = one_more input in_line i c.loop-i-test.true c.loop-i.invariant in
    let letter = is_letter (get_or input i 0) in
    elim c.else-not-in_line.branch [
      | else-not-in_line-via-then-not-in_line+else-not-letter w ↦ on (or_right in_line letter (sym w.if-not-letter.ensures))
      | else-not-in_line-via-else-not-in_line w ↦ on (or_left in_line letter w.if-not-in_line.false)
    ]

pub returns : goal.returns
returns c =
    let input = c.args.input.now in
    let none = at_drop_all (size c.loop-i.in_line) input c.loop-i.i c.loop-i-test.false in
    let there = cut_there input (length input) (omega (arith, c.loop-i.invariant, none)) in
    record { within = omega arith; roster = there.0; calls = there.1 }
