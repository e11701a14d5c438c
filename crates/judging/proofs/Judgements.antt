-- What the judge's answer on the rows of a block says. Assumes nothing.
use Rattle.std.proofs.Common.{◌≡◌, ℕ, Bool, List, Option, Result, sym, ◌∙◌}
use Rattle.rows.specs.declared.fault.RowFault.{RowFault}
use Rattle.rows.specs.declared.row.Row.{Row}
use Rattle.sheets.specs.Programs.{Block, listing}
use Rattle.sheets.specs.Walk.{Program}
use Rattle.judging.specs.Judging.{judged, fault_of}
use Rattle.judging.specs.Theorems.{Judgement}
use Rattle.judging.proofs.Exactly.{judged_exactly}

pub judgement : (flows : ℕ → ℕ → Bool) (joins : ℕ → ℕ → ℕ) (Γ : ℕ → Option ℕ) (p : ℕ) (rows : List Row) {A : Type 0} (r : Result A RowFault) →
    Program rows → ((b : Block) → listing b ≡ rows → fault_of r ≡ judged flows joins Γ p b) → Judgement flows joins Γ p rows r
judgement flows joins Γ p rows r lists answers = record {
  program = lists;
  answer = answers;
  exactly = λ b e.
      let faultless = (judged_exactly flows joins Γ).none_at_fault p b in
      (λ h. faultless.0 (sym (answers b e) ∙ h), λ t. answers b e ∙ faultless.1 t);
}
