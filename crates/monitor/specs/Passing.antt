-- Which sheets the box runs, in terms of what their bytes write and of the typing rules. Assumes nothing.
use Rattle.std.specs.Prelude.{◌≡◌, ℕ, Bool, true, false, List, Some, Ok, Err, Option, Result}
use Rattle.table.specs.Slots.{is_listed}
use Rattle.sheets.specs.Meaning.{Written}
use Rattle.sheets.specs.Programs.{Block, listing}
use Rattle.judging.specs.Typing.{Typed}
use Rattle.noninterference.specs.Monitor.{Monitor}
use Rattle.monitor.specs.declared.fault.MonitorFault.{MonitorFault}
use Rattle.monitor.specs.declared.fault.MonitorFault.TheVariants.{HasRoster, Roster, NoPerson, NoSlot, LayNotPermitted, ViewNotPermitted, Sheet, Cut}

module _ (flows : ℕ → ℕ → Bool) (joins : ℕ → ℕ → ℕ) (labels : ℕ → Option ℕ) where
  -- The bytes write a block row after row, with at most 256 rows and at most 16 blocks open at once, and every slot in it is listed.
  -- The block has a derivation by the typing rules with the label p as the runner's and as the control label.
  pub record Passes (p : ℕ) (bytes : List ℕ) : Type 0 where
    pub block : Block
    pub written : Written (λ i. is_listed (labels i)) bytes (listing block)
    pub typed : Typed flows joins labels p p block

-- person number n is listed, and these bytes pass under that person's label
pub record Permitted (M : Monitor) (n : ℕ) (bytes : List ℕ) : Type 0 where
  pub label : ℕ
  pub is_person : M.people n ≡ Some label
  pub passes : Passes M.flows M.joins M.labels label bytes

abbrev pub is_cut : MonitorFault → Bool
is_cut HasRoster = false
is_cut (Roster fault) = false
is_cut NoPerson = false
is_cut NoSlot = false
is_cut LayNotPermitted = false
is_cut ViewNotPermitted = false
is_cut (Sheet fault) = false
is_cut (Cut turns) = true

-- the sheet was run, to its end or until it was cut
abbrev pub was_run : Result ℕ MonitorFault → Bool
was_run (Ok taken) = true
was_run (Err fault) = is_cut fault
