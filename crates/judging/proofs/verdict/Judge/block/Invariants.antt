use Rattle.table.specs.Slots.{label_at}
use Rattle.judging.specs.Steps.{controls, depth}
use Rattle.judging.proofs.Walking.{Going}
use Rattle.judging.proofs.verdict.Judge.block.Given as goal

abbrev pub invariant-loop-i : goal.invariant-loop-i
invariant-loop-i g l =
    Going (g.S.Scheme.flows l.self.scheme.now) (g.S.Scheme.joins l.self.scheme.now) (label_at l.self.table.now.slots) l.self.runner l.rows l.i
    (controls l.control) (depth l.control)
