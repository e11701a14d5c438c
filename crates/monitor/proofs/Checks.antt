-- A sheet that is read and judged is one that passes the check, and no other is. Assumes nothing.
use Rattle.std.proofs.Common.{◌≡◌, ℕ, ◌<◌, List, get_or, None, Ok, Err, Option, Result, unwrap_or, sym, refl, ap, ◌∙◌, subst, arith, w8, Fits}
use mathlib.Core.Bool.{false≢true}
use Rattle.std.specs.List.{AllByRecursion}
use Rattle.std.proofs.ByRecursion.{All-from_get_or}
use Rattle.labels.specs.declared.scheme.Scheme.{Ghosts}
use Rattle.table.specs.Slots.{is_listed}
use Rattle.rows.specs.declared.row.Row.{Row}
use Rattle.rows.specs.declared.fault.RowFault.{RowFault}
use Rattle.sheets.specs.declared.fault.SheetFault.{SheetFault}
use Rattle.sheets.specs.declared.fault.SheetFault.TheVariants as sheet
use Rattle.sheets.specs.declared.sheet.Sheet.{Sheet}
use Rattle.sheets.specs.Contents.{rows_of}
use Rattle.sheets.specs.Meaning.{Written}
use Rattle.sheets.specs.Programs.{Block, nil, listing}
use Rattle.sheets.specs.Reading.{read_sheet}
use Rattle.sheets.proofs.Meanings.{sheets_are_read, sheets_are_refused}
use Rattle.sheets.proofs.Parses.{parses}
use Rattle.judging.specs.Judging.{fault_of}
use Rattle.judging.specs.Theorems.{Judgement}
use Rattle.judging.proofs.Exactly.{judged_exactly}
use Rattle.noninterference.specs.Monitor.{Monitor}
use Rattle.monitor.specs.declared.monitor.Monitor as box
use Rattle.monitor.specs.declared.fault.MonitorFault.TheVariants as fault
use Rattle.monitor.specs.Boxes.{sheet_fault, unless_faulty, checked_block, checked_rows, checked}
use Rattle.monitor.specs.Passing.{Passes}
use Rattle.monitor.specs.Steps.{the_box}
use Rattle.monitor.specs.Told.{FirstAgainst}
use Rattle.monitor.specs.Vetting.{not_read, not_passed, Checking}

module _ {S : Type 0} (its : Ghosts S) (it : box.Monitor S) (p : ℕ) (bytes : List ℕ) (fit : (k : ℕ) → Fits w8 (get_or bytes k 0)) where
  abbrev M : Monitor
  M = the_box its it

  small : AllByRecursion (λ byte. byte < 256) bytes
  small = All-from_get_or (λ byte. byte < 256) bytes 0 (λ k h. (fit k).fits)

  abbrev reading : Result (List Row) SheetFault
  reading = read_sheet (λ i. is_listed (M.labels i)) bytes

  -- rows that are written are read
  again : (w : Passes M.flows M.joins M.labels p bytes) → reading ≡ Ok (listing w.block)
  again w = (sheets_are_read (λ i. is_listed (M.labels i)) bytes (listing w.block) small).all_written w.written

  module _ {B : Type 0} (rows : List Row) (answer : Result B RowFault) (r : reading ≡ Ok rows) (j : Judgement M.flows M.joins M.labels p rows answer) where
    judged_so : checked M.flows M.joins M.labels p bytes ≡ unless_faulty (fault_of answer) j.program.block
    judged_so =
        ap (checked_rows M.flows M.joins M.labels p) r
        ∙ ap (λ (o : Option Block). checked_block M.flows M.joins M.labels p (unwrap_or o nil)) ((parses rows j.program.block).1 j.program.lists)
        ∙ ap (λ (o : Option RowFault). unless_faulty o j.program.block) (sym (j.answer j.program.block j.program.lists))

    writes : Written (λ i. is_listed (M.labels i)) bytes (listing j.program.block)
    writes = subst (Written (λ i. is_listed (M.labels i)) bytes) (sym j.program.lists) ((sheets_are_read (λ i. is_listed (M.labels i)) bytes rows small).only_written r)

    no_fault : Passes M.flows M.joins M.labels p bytes → fault_of answer ≡ None
    no_fault w = let h = again w in let same : listing w.block ≡ rows = cc in (j.exactly w.block same).1 w.typed

    abbrev passes : fault_of answer ≡ None → Passes M.flows M.joins M.labels p bytes
    passes none = record { block = j.program.block; written = writes; typed = (j.exactly j.program.block j.program.lists).0 none }

  -- of rows that do not pass, the answer names the first
  against : (rows : List Row) (f : RowFault) (j : Judgement M.flows M.joins M.labels p rows {A = Unit {0}} (Err f)) → FirstAgainst M.flows M.joins M.labels p j.program.block f
  against rows f j =
      let first = ((judged_exactly M.flows M.joins M.labels).first_at_fault p j.program.block f).0 (sym (j.answer j.program.block j.program.lists)) in
      record { here = first.0; before = first.1 }

  pub passed : (s : Sheet) → reading ≡ Ok (rows_of s) → Judgement M.flows M.joins M.labels p (rows_of s) {A = Unit {0}} (Ok tt) → Checking M p bytes (Ok s)
  passed s e j =
      let w = passes (rows_of s) (Ok tt) e j refl in
      record { as_check = (j.program.block, judged_so (rows_of s) (Ok tt) e j, j.program.lists); exactly = (λ z. w, λ w. refl); let_in = (w, j.program.lists) }

  pub not_judged : (s : Sheet) (f : RowFault) → reading ≡ Ok (rows_of s) → Judgement M.flows M.joins M.labels p (rows_of s) {A = Unit {0}} (Err f) → Checking M p bytes (Err (fault.Sheet (sheet.Row f)))
  not_judged s f e j =
      record {
        as_check = (sheet_fault (sheet.Row f), judged_so (rows_of s) (Err f) e j, refl, refl);
        exactly = (λ z. absurd (false≢true z), λ w. let h = no_fault (rows_of s) (Err f) e j w in let z : ◌≡◌ {A = ℕ} 0 1 = cc in absurd (omega arith));
        let_in = not_passed j.program.block (writes (rows_of s) (Err f) e j) (against (rows_of s) f j);
      }

  pub not_made : (f : SheetFault) → reading ≡ Err f → Checking M p bytes (Err (fault.Sheet f))
  not_made f e =
      record {
        as_check = (sheet_fault f, ap (checked_rows M.flows M.joins M.labels p) e, refl, refl);
        exactly = (λ z. absurd (false≢true z), λ w. let h = again w in let z : ◌≡◌ {A = ℕ} 0 1 = cc in absurd (omega arith));
        let_in = not_read ((sheets_are_refused (λ i. is_listed (M.labels i)) bytes f small).only_first e);
      }
