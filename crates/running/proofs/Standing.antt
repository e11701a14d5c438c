-- What a sheet's facts give its run. Assumes nothing.
use Rattle.std.proofs.Common.{◌≡◌, ℕ, ◌≤◌, List, length, Ok, Result, sym, ap, ◌∙◌}
use Rattle.table.specs.declared.table.Slot.{Slot}
use Rattle.table.specs.declared.table.Table.{Table}
use Rattle.sheets.specs.Contents.{rows_of}
use Rattle.sheets.specs.Programs.{Block, listing}
use Rattle.sheets.specs.Walk.{Program}
use Rattle.sheets.specs.declared.sheet.Sheet.{Sheet}
use Rattle.sheets.proofs.Walks.{listed}
use Rattle.running.specs.declared.entry.Cut.{Cut}
use Rattle.running.specs.Running.{Outcome, exec}
use Rattle.running.specs.Entry.{ran, Run}
use Rattle.running.specs.Links.{Linked, Stood, outcome}
use Rattle.running.proofs.Keeping.{leaves}
use Rattle.running.proofs.Leading.{whole}

module _ (sheet : Sheet) (few : length (rows_of sheet) ≤ 256) where
  abbrev end : ℕ
  end = length (rows_of sheet)

  program : Program (rows_of sheet)
  program = listed (rows_of sheet) sheet.accepted

  standing : (b : Block) → listing b ≡ rows_of sheet → Linked (rows_of sheet) sheet.jumps 0 b end
  standing b lists = whole (rows_of sheet) few sheet.bounded sheet.jumps sheet.led b lists

  -- some block stands there
  pub stood : Stood (rows_of sheet) sheet.jumps 0 end
  stood = record { block = program.block; linked = standing program.block program.lists }

  -- what is run is each block that the rows list
  pub is_run : (before : Table) (given : ℕ) (o : Outcome) (answer : Result ℕ Cut) (after : Table) → ((b : Block) → Linked (rows_of sheet) sheet.jumps 0 b end → o ≡ exec b before.slots given) → ◌≡◌ {A = Result ℕ Cut × Table} (answer, after) (ran o before given) → Run (rows_of sheet) before given answer after
  is_run before given o answer after runs e =
      record {
        program = program;
        every = λ b lists. e ∙ ap (λ (x : Outcome). ran x before given) (runs b (standing b lists));
      }

  -- and it leaves no more turns than were given
  pub leaves_few : {E : Type 0} (s w : List Slot) (t left : ℕ) (r : Result ℕ E) → ((b : Block) → Linked (rows_of sheet) sheet.jumps 0 b end → outcome r w ≡ exec b s t) → r ≡ Ok left → left ≤ t
  leaves_few {E} s w t left r runs e =
      leaves stood.block s w t left (ap (λ (x : Result ℕ E). outcome x w) (sym e) ∙ runs stood.block stood.linked)
