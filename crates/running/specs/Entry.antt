-- What a run of a sheet answers and what it leaves. Assumes nothing.
use Rattle.std.specs.Prelude.{◌≡◌, ℕ, ◌-◌, List, Ok, Err, Result}
use Rattle.table.specs.declared.table.Table.{Table}
use Rattle.rows.specs.declared.row.Row.{Row}
use Rattle.sheets.specs.Programs.{Block, listing}
use Rattle.sheets.specs.Walk.{Program}
use Rattle.running.specs.Running.{Outcome, done, cut, exec}
use Rattle.running.specs.declared.entry.Cut.{Cut}

-- The answer to a run, and the table after it. A run that comes to its end answers the turns taken and leaves its slots.
-- A run that is cut answers the turns given and leaves the table as it was.
abbrev pub ran : Outcome → Table → ℕ → Result ℕ Cut × Table
ran (done slots left) before given = (Ok (given - left), record { people = before.people; slots = slots })
ran cut before given = (Err (record { turns = given }), before)

-- The rows list a block with at most 16 blocks open at once, and what a run answers and leaves is what that block does:
-- every block that they list, so that it does not matter which is taken.
pub record Run (rows : List Row) (before : Table) (given : ℕ) (answer : Result ℕ Cut) (after : Table) : Type 0 where
  pub program : Program rows
  pub every : (b : Block) → listing b ≡ rows → ◌≡◌ {A = Result ℕ Cut × Table} (answer, after) (ran (exec b before.slots given) before given)
