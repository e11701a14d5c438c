-- What the judge and the typing rules have to do with each other, and with the order of the labels. Assumes nothing.
use Rattle.std.specs.Prelude.{◌≡◌, ℕ, ◌<◌, Bool, true, ◌↔◌, List, length, Some, None, Option, Result, slice_index_or}
use Rattle.labels.specs.Laws.{Code, Lawful}
use Rattle.rows.specs.declared.fault.RowFault.{RowFault}
use Rattle.rows.specs.declared.row.Row.{Row}
use Rattle.sheets.specs.Programs.{Block, listing, ◌⨾◌}
use Rattle.sheets.specs.Walk.{Program}
use Rattle.judging.specs.Typing.{Typed}
use Rattle.judging.specs.Judging.{verdicts, judged, fault_of}

-- Every row of a block has a verdict, and all of them pass exactly when a derivation exists. What stands against a block is its first row
-- that does not pass.
pub record ExactVerdicts (flows : ℕ → ℕ → Bool) (joins : ℕ → ℕ → ℕ) (Γ : ℕ → Option ℕ) : Type 0 where
  pub one_for_each_row : (p γ : ℕ) (b : Block) → length (verdicts flows joins Γ p γ b) ≡ length (listing b)
  pub all_pass : (p γ : ℕ) (b : Block) → ((i : ℕ) → slice_index_or (verdicts flows joins Γ p γ b) i None ≡ None) ↔ Typed flows joins Γ p γ b
  pub none_at_fault : (p : ℕ) (b : Block) → (judged flows joins Γ p b ≡ None) ↔ Typed flows joins Γ p p b
  pub first_at_fault : (p : ℕ) (b : Block) (fault : RowFault) →
      (judged flows joins Γ p b ≡ Some fault)
      ↔ ((slice_index_or (verdicts flows joins Γ p p b) fault.row None ≡ Some fault.reason)
      × ((i : ℕ) → i < fault.row → slice_index_or (verdicts flows joins Γ p p b) i None ≡ None))

abbrev pub JudgedExactly : Type 0
JudgedExactly = (flows : ℕ → ℕ → Bool) (joins : ℕ → ℕ → ℕ) (Γ : ℕ → Option ℕ) → ExactVerdicts flows joins Γ

-- the labels of all listed slots are codes
abbrev pub Coded : (ℕ → Option ℕ) → Type 0
Coded Γ = (i l : ℕ) → Γ i ≡ Some l → Code l

-- what is typed under a control label is typed under each that is at or below it
abbrev pub LowerControl : Type 0
LowerControl = (flows : ℕ → ℕ → Bool) (joins : ℕ → ℕ → ℕ) (bits : ℕ) → Lawful flows joins bits →
    (Γ : ℕ → Option ℕ) → Coded Γ → (p γ δ : ℕ) → Code p → Code γ → Code δ → flows δ γ ≡ true → (b : Block) →
    Typed flows joins Γ p γ b → Typed flows joins Γ p δ b

-- The verdicts depend on the order alone: two lawful schemes that order the codes alike, whatever their joins, give every row of a block the
-- same verdict, and so type the same blocks.
abbrev pub OrderAlone : Type 0
OrderAlone = (flows₁ flows₂ : ℕ → ℕ → Bool) (joins₁ joins₂ : ℕ → ℕ → ℕ) (bits₁ bits₂ : ℕ) →
    Lawful flows₁ joins₁ bits₁ → Lawful flows₂ joins₂ bits₂ → ((a b : ℕ) → Code a → Code b → flows₁ a b ≡ flows₂ a b) →
    (Γ : ℕ → Option ℕ) → Coded Γ → (p γ : ℕ) → Code p → Code γ → (b : Block) →
    (verdicts flows₁ joins₁ Γ p γ b ≡ verdicts flows₂ joins₂ Γ p γ b)
    × (Typed flows₁ joins₁ Γ p γ b ↔ Typed flows₂ joins₂ Γ p γ b)

-- One block after another is typed exactly when both are, under the same control label.
abbrev pub SequenceRule : Type 0
SequenceRule = (flows : ℕ → ℕ → Bool) (joins : ℕ → ℕ → ℕ) (Γ : ℕ → Option ℕ) (p γ : ℕ) (a b : Block) →
    Typed flows joins Γ p γ (a ⨾ b) ↔ (Typed flows joins Γ p γ a × Typed flows joins Γ p γ b)

-- What an answer r on these rows says, for a runner with the label p. The rows list a block; the answer names what stands against it, and
-- nothing does exactly when it has a derivation.
pub record Judgement (flows : ℕ → ℕ → Bool) (joins : ℕ → ℕ → ℕ) (Γ : ℕ → Option ℕ) (p : ℕ) (rows : List Row) {A : Type 0} (r : Result A RowFault) : Type 0 where
  pub program : Program rows
  pub answer : (b : Block) → listing b ≡ rows → fault_of r ≡ judged flows joins Γ p b
  pub exactly : (b : Block) → listing b ≡ rows → (fault_of r ≡ None) ↔ Typed flows joins Γ p p b
