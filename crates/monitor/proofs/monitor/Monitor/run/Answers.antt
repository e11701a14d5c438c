use Rattle.std.proofs.Common.{◌≡◌, Some, None, Ok, Err, rules}
use Rattle.std.proofs.lemmas.Result.{err_from_is_err_and}
use Rattle.table.specs.Slots.{person_at}
use Rattle.monitor.specs.declared.fault.MonitorFault.TheVariants.{NoPerson}
use Rattle.monitor.specs.Told.{RunTold}
use Rattle.monitor.proofs.Telling.{turned_away, was_run}
use Rattle.monitor.proofs.monitor.Monitor.run.Goals as goal

pub returns-in_err-runner-clause-told : goal.returns-in_err-runner-clause-told
returns-in_err-runner-clause-told g c =
    let nobody : person_at c.args.self.now.table.people c.args.person ≡ None = search rules in
    let answer : c.from_residual.result ≡ Err NoPerson = search rules in
    rw answer (RunTold.no_person nobody)

pub returns-in_err-sheet-clause-told : goal.returns-in_err-sheet-clause-told
returns-in_err-sheet-clause-told g c =
    let who : person_at c.args.self.now.table.people c.args.person ≡ Some c.in_ok-runner.runner = search rules in
    let p = err_from_is_err_and c.from_residual-in_err-sheet.result c.from_residual-in_err-sheet.ensures.1 in
    rw (p.1, p.2) (turned_away _ _ _ _ _ _ who _ c.in_err-sheet.ensures.let_in)

pub returns-in_err-taken-clause-told : goal.returns-in_err-taken-clause-told
returns-in_err-taken-clause-told g c =
    let who : person_at c.args.self.now.table.people c.args.person ≡ Some c.in_ok-runner.runner = search rules in
    let p = err_from_is_err_and c.from_residual-in_err-taken.result c.from_residual-in_err-taken.ensures.1 in
    let sheet = c.in_ok-sheet.ensures.let_in in
    rw (p.1, p.2) (was_run _ _ _ _ _ _ who sheet.0 _ sheet.1 (Err c.in_err-taken.field-0.0) _ c.in_err-taken.ensures)

pub returns-clause-told : goal.returns-clause-told
returns-clause-told g c =
    let who : person_at c.args.self.now.table.people c.args.person ≡ Some c.in_ok-runner.runner = search rules in
    let sheet = c.in_ok-sheet.ensures.let_in in
    was_run _ _ _ _ _ _ who sheet.0 _ sheet.1 (Ok c.in_ok-taken.taken) _ c.in_ok-taken.ensures
