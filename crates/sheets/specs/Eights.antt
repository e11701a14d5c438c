-- Reading as its code goes about it: the bytes are cut into eights first. A private function is held to this word, and `Sheet::read` to those
-- of `Reading`. Assumes nothing.
use Rattle.std.specs.Prelude.{ℕ, ◌+◌, Bool, List, [], ◌∷◌, Result}
use Rattle.rows.specs.Reading.{read_row}
use Rattle.rows.specs.declared.row.Row.{Row}
use Rattle.sheets.specs.Reading.{going_on, with_first}
use Rattle.sheets.specs.Walk.{at_end, entered}
use Rattle.sheets.specs.declared.fault.SheetFault.{SheetFault}
use Rattle.sheets.specs.declared.walker.Open.{Open}

-- the rows that are left, the first of them row i, with the bytes of each and the blocks that are open before them
abbrev pub read_eights : (ℕ → Bool) → ℕ → List (List ℕ) → List Open → Result (List Row) SheetFault
read_eights lists i [] st = at_end [] st
read_eights lists i (eight ∷ eights) st =
    going_on (read_row lists i eight) (λ r.
    going_on (entered r i st) (λ after.
    with_first r (read_eights lists (i + 1) eights after)))
