-- What a lay, a view and a run come to, in terms of people, slots and labels, of what bytes write, and of the rules of typing and of running.
-- Assumes nothing.
use Rattle.std.specs.Prelude.{◌≡◌, ℕ, ◌-◌, ◌<◌, Bool, true, List, length, get_or, ℤ, Some, None, Ok, Err, Option, Result, slice_index_or}
use Rattle.table.specs.declared.table.Table.{Table}
use Rattle.table.specs.Slots.{value_at, label_at, is_listed}
use Rattle.rows.specs.declared.fault.RowFault.{RowFault}
use Rattle.sheets.specs.declared.fault.SheetFault.{SheetFault}
use Rattle.sheets.specs.declared.fault.SheetFault.TheVariants.{Row}
use Rattle.sheets.specs.Programs.{Block, listing}
use Rattle.sheets.specs.Meaning.{Written, Refused}
use Rattle.judging.specs.Typing.{Typed}
use Rattle.judging.specs.Judging.{verdicts}
use Rattle.running.specs.Running.{done, cut}
use Rattle.running.specs.BigStep.{Runs}
use Rattle.noninterference.specs.Monitor.{Monitor}
use Rattle.monitor.specs.declared.fault.MonitorFault.{MonitorFault}
use Rattle.monitor.specs.declared.fault.MonitorFault.TheVariants.{NoPerson, NoSlot, LayNotPermitted, ViewNotPermitted, Sheet, Cut}

-- slot i then has the value v, and nothing else is changed
pub record Laid (before : Table) (i : ℕ) (v : ℤ) (after : Table) : Type 0 where
  pub value_there : value_at after.slots i ≡ v
  pub others_stay : (j : ℕ) → ¬ (j ≡ i) → value_at after.slots j ≡ value_at before.slots j
  pub labels_stay : (j : ℕ) → label_at after.slots j ≡ label_at before.slots j
  pub size_stays : length after.slots ≡ length before.slots
  pub people_stay : after.people ≡ before.people

-- Person n lays v into slot i: what is answered, and the table after it. The person's label must be at or below the slot's.
pub data LayTold (M : Monitor) (before : Table) (n i : ℕ) (v : ℤ) : Result (Unit {0}) MonitorFault → Table → Type 0 where
  no_person : M.people n ≡ None → LayTold M before n i v (Err NoPerson) before
  no_slot : {p : ℕ} → M.people n ≡ Some p → M.labels i ≡ None → LayTold M before n i v (Err NoSlot) before
  not_permitted : {p l : ℕ} → M.people n ≡ Some p → M.labels i ≡ Some l → ¬ (M.flows p l ≡ true) → LayTold M before n i v (Err LayNotPermitted) before
  laid : {p l : ℕ} {after : Table} → M.people n ≡ Some p → M.labels i ≡ Some l → M.flows p l ≡ true → Laid before i v after → LayTold M before n i v (Ok tt) after

-- Person n views slot i: what is answered. The slot's label must be at or below the person's.
pub data ViewTold (M : Monitor) (before : Table) (n i : ℕ) : Result ℤ MonitorFault → Type 0 where
  no_person : M.people n ≡ None → ViewTold M before n i (Err NoPerson)
  no_slot : {p : ℕ} → M.people n ≡ Some p → M.labels i ≡ None → ViewTold M before n i (Err NoSlot)
  not_permitted : {p l : ℕ} → M.people n ≡ Some p → M.labels i ≡ Some l → ¬ (M.flows l p ≡ true) → ViewTold M before n i (Err ViewNotPermitted)
  viewed : {p l : ℕ} {v : ℤ} → M.people n ≡ Some p → M.labels i ≡ Some l → M.flows l p ≡ true → v ≡ value_at before.slots i → ViewTold M before n i (Ok v)

-- for a runner with the label p the verdict on this row of the block is the reason given, and every row before it passes
pub record FirstAgainst (flows : ℕ → ℕ → Bool) (joins : ℕ → ℕ → ℕ) (labels : ℕ → Option ℕ) (p : ℕ) (b : Block) (f : RowFault) : Type 0 where
  pub here : get_or (verdicts flows joins labels p p b) f.row None ≡ Some f.reason
  pub before : (k : ℕ) → k < f.row → slice_index_or (verdicts flows joins labels p p b) k None ≡ None

-- Person n runs the sheet of these bytes with so many turns: what is answered, and the table after it.
pub data RunTold (M : Monitor) (before : Table) (n : ℕ) (bytes : List ℕ) (turns : ℕ) : Result ℕ MonitorFault → Table → Type 0 where
  no_person : M.people n ≡ None → RunTold M before n bytes turns (Err NoPerson) before
  -- the bytes write no block, and this is the first thing that is at fault in them
  not_read : {p : ℕ} {f : SheetFault} → M.people n ≡ Some p → Refused (λ i. is_listed (M.labels i)) bytes f → RunTold M before n bytes turns (Err (Sheet f)) before
  -- they write a block, and a row of it does not pass
  not_passed : {p : ℕ} {f : RowFault} (b : Block) → M.people n ≡ Some p → Written (λ i. is_listed (M.labels i)) bytes (listing b) →
      FirstAgainst M.flows M.joins M.labels p b f → RunTold M before n bytes turns (Err (Sheet (Row f))) before
  -- every row passes, and the turns do not suffice
  was_cut : {p : ℕ} (b : Block) → M.people n ≡ Some p → Written (λ i. is_listed (M.labels i)) bytes (listing b) → Typed M.flows M.joins M.labels p p b →
      Runs b before.slots turns cut → RunTold M before n bytes turns (Err (Cut turns)) before
  -- every row passes, and the run comes to its end with so many turns left
  ran : {p left : ℕ} {after : Table} (b : Block) → M.people n ≡ Some p → Written (λ i. is_listed (M.labels i)) bytes (listing b) → Typed M.flows M.joins M.labels p p b →
      Runs b before.slots turns (done after.slots left) → after.people ≡ before.people → RunTold M before n bytes turns (Ok (turns - left)) after
