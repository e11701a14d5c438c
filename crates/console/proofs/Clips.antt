-- A sheet that is too long is refused whatever stands in it, so of a longer one the rest can be left out. Assumes nothing.
use Rattle.std.proofs.Common.{◌≡◌, ℕ, ◌<◌, Bool, true, false, leb, List, length, take, Some, None, Err, Option, Result, sym, refl, ap, ◌∙◌, arith}
use Rattle.std.specs.Option.{option_map}
use Rattle.std.proofs.lemmas.List.{take_all, length-take}
use Rattle.std.proofs.lemmas.Bool.{leb-true, leb-false, lt-leb}
use Rattle.table.specs.declared.table.Slot.{Slot}
use Rattle.table.specs.declared.table.Table.{Table}
use Rattle.table.specs.Slots.{person_at, label_at, is_listed}
use Rattle.rows.specs.declared.row.Row.{Row}
use Rattle.sheets.specs.declared.fault.SheetFault.{SheetFault}
use Rattle.sheets.specs.declared.fault.SheetFault.TheVariants as fault
use Rattle.sheets.specs.Reading.{read_sheet}
use Rattle.noninterference.specs.Monitor.{Call, lay, view, run, Answer, step, run_as, run_checked}
use Rattle.monitor.specs.Boxes.{checked_rows, Stepped}
use Rattle.console.specs.Clipping.{clipped}
use Rattle.console.specs.Reading.{call_in}
use Rattle.console.specs.Console.{answer_line, faulty_line}
use Rattle.console.specs.Scheme.{window_flows, window_joins, window_bits, window_of}
use Rattle.console.specs.Turns.{Turned}

too_long : (lists : ℕ → Bool) (bytes : List ℕ) → 2048 < length bytes → read_sheet lists bytes ≡ Err fault.Length
too_long lists bytes h = rw (lt-leb (length bytes) 2048 h)

read_clipped : (lists : ℕ → Bool) (bytes : List ℕ) → read_sheet lists (take 2049 bytes) ≡ read_sheet lists bytes
read_clipped lists bytes = go (leb (length bytes) 2048) refl
  where
    go : (z : Bool) → leb (length bytes) 2048 ≡ z → read_sheet lists (take 2049 bytes) ≡ read_sheet lists bytes
    go true e = let few = leb-true (length bytes) 2048 e in ap (read_sheet lists) (take_all 2049 bytes (omega arith))
    go false e =
        let many : 2048 < length bytes = leb-false (length bytes) 2048 e in
        let still : 2048 < length (take 2049 bytes) = simp length-take (omega arith) in
        too_long lists (take 2049 bytes) still ∙ sym (too_long lists bytes many)

step_clipped : (table : Table) (slots : List Slot) (call : Call) → step (window_of table) slots (clipped 2049 call) ≡ step (window_of table) slots call
step_clipped table slots (lay n i v) = refl
step_clipped table slots (view n i) = refl
step_clipped table slots (run n sheet turns) = go (person_at table.people n)
  where
    go : (o : Option ℕ) → run_as (window_of table) o slots (take 2049 sheet) turns ≡ run_as (window_of table) o slots sheet turns
    go None = refl
    go (Some p) =
        ap (λ (r : Result (List Row) SheetFault). run_checked (checked_rows window_flows window_joins (label_at table.slots) p r) slots turns)
        (read_clipped (λ i. is_listed (label_at table.slots i)) sheet)

-- the reply to a line whose call, with its sheet clipped, was made
pub to_call : {before after : Table} {text : List ℕ} {call : Call} {answer : Answer} (line : List ℕ) → Some call ≡ option_map (clipped 2049) (call_in line) →
    Stepped window_flows window_joins window_bits before call answer after → text ≡ answer_line answer → Turned before (call_in line) text after
to_call {before} {after} {text} {call} {answer} line e stepped printed = go (call_in line) e
  where
    go : (o : Option Call) → Some call ≡ option_map (clipped 2049) o → Turned before o text after
    go None f = let z : ◌≡◌ {A = ℕ} 0 1 = cc in absurd (omega arith)
    go (Some whole) f =
        let same : call ≡ clipped 2049 whole = cc in
        let steps = stepped.steps ∙ (ap (step (window_of before) before.slots) same ∙ step_clipped before before.slots whole) in
        record {
          printed = printed ∙ ap (λ (p : List Slot × Answer). answer_line p.1) steps;
          slots = ap (λ (p : List Slot × Answer). p.0) steps;
          people = stepped.people_stay;
        }

-- the reply to a line that is no call
pub to_none : {before : Table} {text : List ℕ} (line : List ℕ) → None ≡ option_map (clipped 2049) (call_in line) → text ≡ faulty_line → Turned before (call_in line) text before
to_none {before} {text} line e printed = go (call_in line) e
  where
    go : (o : Option Call) → None ≡ option_map (clipped 2049) o → Turned before o text before
    go None f = record { printed = printed; slots = refl; people = refl }
    go (Some call) f = let z : ◌≡◌ {A = ℕ} 0 1 = cc in absurd (omega arith)
