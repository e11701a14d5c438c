-- The monitor of a table under a scheme, and what a call on the box does by it. Assumes nothing.
use Rattle.std.specs.Prelude.{◌≡◌, ℕ, Bool, ◌⊎◌, List, Some, None, Ok, Err, Option, Result}
use Rattle.std.proofs.Common.{inl, inr}
use Rattle.std.specs.Option.{unwrap_or}
use Rattle.table.specs.declared.table.Slot.{Slot}
use Rattle.table.specs.declared.table.Table.{Table}
use Rattle.table.specs.Slots.{person_at, label_at, is_listed}
use Rattle.rows.specs.declared.row.Row.{Row}
use Rattle.rows.specs.declared.fault.RowFault.{RowFault}
use Rattle.sheets.specs.declared.fault.SheetFault.{SheetFault}
use Rattle.sheets.specs.declared.fault.SheetFault.TheVariants as fault
use Rattle.sheets.specs.Faults as sheet
use Rattle.sheets.specs.Programs.{Block, nil}
use Rattle.sheets.specs.Parsing.{block_of}
use Rattle.sheets.specs.Reading.{read_sheet}
use Rattle.judging.specs.Judging.{judged}
use Rattle.noninterference.specs.Monitor.{Call, Answer, refused, Fault, Monitor, step}
use Rattle.monitor.specs.declared.fault.MonitorFault.{MonitorFault}
use Rattle.monitor.specs.Faults.{fault_number, fault_row, fault_byte, fault_count}

abbrev pub sheet_fault : SheetFault → Fault
sheet_fault f = record { number = sheet.fault_number f; row = sheet.fault_row f; byte = sheet.fault_byte f }

-- a block, unless a row of it stands against it
abbrev pub unless_faulty : Option RowFault → Block → Fault ⊎ Block
unless_faulty None b = inr b
unless_faulty (Some f) b = inl (sheet_fault (fault.Row f))

module _ (flows : ℕ → ℕ → Bool) (joins : ℕ → ℕ → ℕ) (labels : ℕ → Option ℕ) where
  -- a block that a person with the label p wants to run, judged
  abbrev pub checked_block : ℕ → Block → Fault ⊎ Block
  checked_block p b = unless_faulty (judged flows joins labels p b) b

  abbrev pub checked_rows : ℕ → Result (List Row) SheetFault → Fault ⊎ Block
  checked_rows p (Err f) = inl (sheet_fault f)
  checked_rows p (Ok rows) = checked_block p (unwrap_or (block_of rows) nil)

  -- the bytes of a sheet are read, and the block that its rows list is judged: by labels alone
  abbrev pub checked : ℕ → List ℕ → Fault ⊎ Block
  checked p bytes = checked_rows p (read_sheet (λ i. is_listed (labels i)) bytes)

module _ (flows : ℕ → ℕ → Bool) (joins : ℕ → ℕ → ℕ) (bits : ℕ) where
  abbrev pub monitor_of : (people labels : ℕ → Option ℕ) → Monitor
  monitor_of people labels = record {
    flows = flows;
    joins = joins;
    bits = bits;
    people = people;
    labels = labels;
    check = checked flows joins labels;
  }

  -- the monitor of the people and slots that a table lists
  abbrev pub box_of : Table → Monitor
  box_of table = monitor_of (person_at table.people) (label_at table.slots)

-- how a refusal is told
abbrev pub told : MonitorFault → Answer
told f = refused (fault_number f) (fault_row f) (fault_byte f) (fault_count f)

-- the answer to a call that was granted with a value, or refused
abbrev pub answer_by : {A : Type 0} → (A → Answer) → Result A MonitorFault → Answer
answer_by granted (Ok x) = granted x
answer_by granted (Err f) = told f

-- The box answers a call and leaves its slots as the monitor of its table does, and its people stay.
pub record Stepped (flows : ℕ → ℕ → Bool) (joins : ℕ → ℕ → ℕ) (bits : ℕ) (before : Table) (call : Call) (answer : Answer) (after : Table) : Type 0 where
  pub steps : ◌≡◌ {A = List Slot × Answer} (after.slots, answer) (step (box_of flows joins bits before) before.slots call)
  pub people_stay : after.people ≡ before.people
