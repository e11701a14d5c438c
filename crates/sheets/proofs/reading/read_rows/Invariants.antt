use Rattle.table.specs.Slots.{listed}
use Rattle.sheets.specs.Walk.{latest}
use Rattle.sheets.proofs.Assembling.{Going}
use Rattle.sheets.proofs.reading.read_rows.Given as goal

abbrev pub invariant-loop-i : goal.invariant-loop-i
invariant-loop-i l = Going (listed l.table.slots) l.eights l.rows.items l.jumps l.i (latest l.walker)
