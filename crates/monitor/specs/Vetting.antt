-- The inner contracts of reading and judging a sheet before it is run. What they come to is said in Boxes, Passing and Told. Assumes nothing.
use Rattle.std.specs.Prelude.{◌≡◌, ℕ, true, false, ◌⊎◌, ◌↔◌, List, is_ok, Ok, Err, Result}
use Rattle.std.proofs.Common.{inl, inr}
use Rattle.table.specs.Slots.{is_listed}
use Rattle.rows.specs.declared.fault.RowFault.{RowFault}
use Rattle.sheets.specs.declared.fault.SheetFault.{SheetFault}
use Rattle.sheets.specs.declared.fault.SheetFault.TheVariants as sheet
use Rattle.sheets.specs.declared.sheet.Sheet.{Sheet}
use Rattle.sheets.specs.Contents.{rows_of}
use Rattle.sheets.specs.Programs.{Block, listing}
use Rattle.sheets.specs.Meaning.{Written, Refused}
use Rattle.judging.specs.Theorems.{Judgement}
use Rattle.noninterference.specs.Monitor.{refused, Fault, Monitor}
use Rattle.monitor.specs.declared.fault.MonitorFault.{MonitorFault}
use Rattle.monitor.specs.declared.fault.MonitorFault.TheVariants as fault
use Rattle.monitor.specs.Boxes.{told}
use Rattle.monitor.specs.Passing.{Passes, is_cut}
use Rattle.monitor.specs.Told.{FirstAgainst}

-- a sheet is judged for a runner with the label p: it is given back, or the row that stands against it is told
abbrev pub Judged : Monitor → ℕ → Sheet → Result Sheet RowFault → Type 0
Judged M p sheet (Ok same) = (same ≡ sheet) × Judgement M.flows M.joins M.labels p (rows_of sheet) {A = Unit {0}} (Ok tt)
Judged M p sheet (Err f) = Judgement M.flows M.joins M.labels p (rows_of sheet) {A = Unit {0}} (Err f)

-- A sheet is made of rows that list the block which the check gives, or it is refused as the check refuses it.
abbrev pub Checked : Fault ⊎ Block → Result Sheet MonitorFault → Type 0
Checked check (Ok sheet) = (b : Block) × (check ≡ inr b) × (listing b ≡ rows_of sheet)
Checked check (Err why) = (fault : Fault) × (check ≡ inl fault) × (told why ≡ refused fault.number fault.row fault.byte 0) × (is_cut why ≡ false)

-- why a sheet is not run for a person with the label p
pub data TurnedAway (M : Monitor) (p : ℕ) (bytes : List ℕ) : MonitorFault → Type 0 where
  not_read : {f : SheetFault} → Refused (λ i. is_listed (M.labels i)) bytes f → TurnedAway M p bytes (fault.Sheet f)
  not_passed : {f : RowFault} (b : Block) → Written (λ i. is_listed (M.labels i)) bytes (listing b) → FirstAgainst M.flows M.joins M.labels p b f →
      TurnedAway M p bytes (fault.Sheet (sheet.Row f))

-- A sheet is made of rows that list a block which passes, or it is said why it is not run.
abbrev pub LetIn : (M : Monitor) (p : ℕ) (bytes : List ℕ) → Result Sheet MonitorFault → Type 0
LetIn M p bytes (Ok sheet) = (w : Passes M.flows M.joins M.labels p bytes) × (listing w.block ≡ rows_of sheet)
LetIn M p bytes (Err why) = TurnedAway M p bytes why

-- reading and judging a sheet answers as the monitor's check does, and the sheet passes exactly if it has the form and a derivation
pub record Checking (M : Monitor) (p : ℕ) (bytes : List ℕ) (r : Result Sheet MonitorFault) : Type 0 where
  pub as_check : Checked (M.check p bytes) r
  pub exactly : (is_ok r ≡ true) ↔ Passes M.flows M.joins M.labels p bytes
  pub let_in : LetIn M p bytes r
