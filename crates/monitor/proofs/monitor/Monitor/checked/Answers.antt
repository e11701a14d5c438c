use Rattle.std.proofs.lemmas.Result.{err_from_is_err_and}
use Rattle.monitor.proofs.Checks.{passed, not_judged, not_made}
use Rattle.monitor.proofs.monitor.Monitor.checked.Goals as goal

pub returns-in_err-sheet : goal.returns-in_err-sheet
returns-in_err-sheet g c =
    let p = err_from_is_err_and c.from_residual.result c.from_residual.ensures.1 in
    rw (p.1, p.2) (not_made g.S.Scheme c.args.self.now c.args.runner c.args.bytes.now c.type_inv.bytes _ c.in_err-sheet.ensures.read)

pub returns-in_err-judged : goal.returns-in_err-judged
returns-in_err-judged g c =
    let p = err_from_is_err_and c.from_residual-in_err-judged.result c.from_residual-in_err-judged.ensures.1 in
    rw (p.1, p.2) (not_judged g.S.Scheme c.args.self.now c.args.runner c.args.bytes.now c.type_inv.bytes c.in_ok-sheet.sheet _ c.in_ok-sheet.ensures.read c.in_err-judged.ensures)

pub returns : goal.returns
returns g c =
    let same = c.in_ok-judged.ensures in
    rw same.0 (passed g.S.Scheme c.args.self.now c.args.runner c.args.bytes.now c.type_inv.bytes c.in_ok-sheet.sheet c.in_ok-sheet.ensures.read same.1)
