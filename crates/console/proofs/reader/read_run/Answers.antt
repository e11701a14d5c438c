use Rattle.std.proofs.Common.{Some, ap, ◌∙◌}
use Rattle.console.proofs.Clipping.{run_clipped}
use Rattle.console.proofs.reader.read_run.Goals as goal

pub returns : goal.returns
returns c =
    let f = c.in_ok-person in
    run_clipped 2049 c.args.text.now f.digits.now c.as_slice.result.now f.person f.turns f.ensures (ap Some c.as_slice.ensures.value ∙ c.in_ok-decode_sheet.ensures)
