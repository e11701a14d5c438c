-- Each call goes to a later row; a loop in `run_row` takes turns.
use Rattle.std.proofs.Common.{◌≡◌, ℕ, ◌+◌, ◌-◌, ◌*◌, ◌<◌, ◌≤◌}
use Rattle.sheets.specs.Programs.{Block}
use Rattle.running.specs.Links.{Linked}
use Rattle.running.proofs.Parts.{Left, Looking}
use Rattle.running.proofs.runner.+run_block_run_row.Given as goal

abbrev pub decreases-run_block : goal.decreases-run_block
decreases-run_block l = 2 * (256 - l.from) + 1

abbrev pub decreases-run_row : goal.decreases-run_row
decreases-run_row l = 2 * (256 - l.at)

abbrev pub invariant-run_block-loop-at : goal.invariant-run_block-loop-at
invariant-run_block-loop-at l =
    (l.from ≤ l.at)
    × (l.table.people ≡ l.initial.table.people)
    × ((b : Block) → Linked l.sheet.rows.items l.sheet.jumps l.from b l.to → Left l.sheet.rows.items l.sheet.jumps l.at l.to b l.initial.table.slots l.turns l.table.slots l.left)

abbrev pub decreases-run_block-loop-at : goal.decreases-run_block-loop-at
decreases-run_block-loop-at l = l.to - l.at

abbrev pub invariant-run_row-loop-at : goal.invariant-run_row-loop-at
invariant-run_row-loop-at l =
    (l.table.people ≡ l.initial.table.people)
    × ((b : Block) (to : ℕ) → Linked l.sheet.rows.items l.sheet.jumps l.at b to → l.at < to → Looking l.sheet.rows.items l.sheet.jumps l.at l.guard b to l.initial.table.slots l.turns l.table.slots l.left)

abbrev pub decreases-run_row-loop-at : goal.decreases-run_row-loop-at
decreases-run_row-loop-at l = l.left
