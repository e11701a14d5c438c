use Rattle.std.proofs.Common.{arith}
use Rattle.std.proofs.lemmas.Result.{err_from_is_err_and}
use Rattle.sheets.proofs.Assembling.{going_row, going_block, going_more, going_open, going_all}
use Rattle.sheets.proofs.reading.read_rows.Goals as goal

pub returns-in_err-row : goal.returns-in_err-row
returns-in_err-row c =
    let p = err_from_is_err_and c.from_residual.result c.from_residual.ensures.1 in
    rw (p.1, p.2) (going_row _ _ c.loop-i.invariant _ c.loop-i-test.true c.in_err-row.ensures.read)

pub returns-in_err-ended : goal.returns-in_err-ended
returns-in_err-ended c =
    let p = err_from_is_err_and c.from_residual-in_err-ended.result c.from_residual-in_err-ended.ensures.1 in
    rw (p.1, p.2)
    (going_block _ _ c.loop-i.invariant c.in_ok-row.row _ c.loop-i-test.true c.in_ok-row.ensures.read c.in_err-ended.ensures.0)

pub loop-i-preserved : goal.loop-i-preserved
loop-i-preserved c =
    rw c.push.ensures.items
    (going_more _ _ c.loop-i.invariant c.in_ok-row.row _ _ _ c.loop-i-test.true c.requires c.in_ok-row.ensures.read c.in_ok-row.ensures.bounded c.in_ok-ended.ensures c.note_jump.ensures)

pub returns-in_err-finish : goal.returns-in_err-finish
returns-in_err-finish c =
    let p = err_from_is_err_and c.from_residual-in_err-finish.result c.from_residual-in_err-finish.ensures.1 in
    rw (p.1, p.2) (going_open _ _ c.loop-i.invariant tt _ (omega arith) c.in_err-finish.ensures)

pub invariant_of-result : goal.invariant_of-result
invariant_of-result c =
    let w = going_all _ _ c.loop-i.invariant tt _ (omega arith) c.in_ok-finish.ensures in
    record { few = omega (arith, c.loop-i.invariant.many, c.requires); accepted = w.accepted; led = w.led; bounded = w.bounded }

pub returns : goal.returns
returns c = (going_all _ _ c.loop-i.invariant tt _ (omega arith) c.in_ok-finish.ensures).same
