use Rattle.std.proofs.Common.{rules}
use Rattle.std.proofs.lemmas.Result.{err_from_is_err_and}
use Rattle.monitor.specs.Told.{LayTold}
use Rattle.monitor.proofs.Telling.{lay_missing, found, put_lays}
use Rattle.monitor.proofs.monitor.Monitor.lay.Goals as goal

pub returns-in_err-person-clause-told : goal.returns-in_err-person-clause-told
returns-in_err-person-clause-told g c =
    let p = err_from_is_err_and c.from_residual.result c.from_residual.ensures.1 in
    rw (p.1, p.2) (lay_missing _ _ _ _ _ _ c.in_err-person.ensures)

pub returns-then-not-flows_to-clause-told : goal.returns-then-not-flows_to-clause-told
returns-then-not-flows_to-clause-told g c =
    let both = found _ _ _ _ c.in_ok-person.ensures in
    LayTold.not_permitted both.0 both.1 (search rules)

pub returns-clause-told : goal.returns-clause-told
returns-clause-told g c =
    let both = found _ _ _ _ c.in_ok-person.ensures in
    LayTold.laid both.0 both.1 (search rules) (put_lays _ _ _ c.in_ok-person.label _ both.1 (search rules) c.put.ensures.people)
