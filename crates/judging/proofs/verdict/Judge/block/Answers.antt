use Rattle.std.proofs.Common.{rules}
use Rattle.judging.proofs.Walking.{going_none, going_off, going_all}
use Rattle.judging.proofs.verdict.Judge.block.Goals as goal

pub loop-i-init : goal.loop-i-init
loop-i-init g c = going_none _ _ _ _ _ _ _ c.requires.program (search rules) (search rules)

pub returns-in-Err : goal.returns-in-Err
returns-in-Err g c b e =
    let h = going_off _ _ _ _ _ c.loop-i.invariant c.loop-i-test.true c.in-Err.reason (search rules) b e in
    search rules

pub returns : goal.returns
returns g c b e = going_all _ _ _ _ _ c.loop-i.invariant c.loop-i-test.false b e
