-- The judge: every row of a block is judged by the labels alone, before any row is run. Assumes nothing.
--
-- `flows a b` says that label a is at or below label b, `joins a b` is the join of two labels, and Γ gives the label of a slot if
-- it is listed. A slot that is not listed never passes.
use Rattle.std.specs.Prelude.{ℕ, ◌+◌, Bool, true, false, cond, ◌&&◌, List, [], ◌∷◌, ◌++◌, Some, None, Ok, Err, Option, Result}
use Rattle.rows.specs.declared.fault.RowFault.{RowFault}
use Rattle.rows.specs.declared.fault.RowReason.{RowReason}
use Rattle.rows.specs.declared.fault.RowReason.TheVariants.{NotListed, SetNotPassed, WhileNotPassed}
use Rattle.rows.specs.declared.row.Row.{Row}
use Rattle.rows.specs.declared.row.Row.TheVariants.{Idle, PutConstant, SlotWithConstant, TwoSlots, If, Else, While, End}
use Rattle.table.specs.Slots.{is_listed}
use Rattle.sheets.specs.Programs.{Block, nil, simple, when, either, while, simple_row}

-- there is a label, and it passes the test
abbrev pub has_label : Option ℕ → (ℕ → Bool) → Bool
has_label None test = false
has_label (Some l) test = test l

-- a verdict: None for a row that passes, otherwise why it does not
abbrev pub unless_passed : Bool → RowReason → Option RowReason
unless_passed passes reason = cond passes None (Some reason)

-- what an answer has against a row, or against a sheet: None where it has nothing
abbrev pub fault_of : {A E : Type 0} → Result A E → Option E
fault_of (Ok x) = None
fault_of (Err why) = Some why

-- the first verdict against a row, with the row's number; the first verdict is on row i
abbrev pub first_fault : ℕ → List (Option RowReason) → Option RowFault
first_fault i [] = None
first_fault i (None ∷ verdicts) = first_fault (i + 1) verdicts
first_fault i (Some why ∷ verdicts) = Some (record { row = i; reason = why })

-- every label is there, and is at or below l
abbrev pub all_below : (ℕ → ℕ → Bool) → List (Option ℕ) → ℕ → Bool
all_below flows [] l = true
all_below flows (label ∷ labels) l = has_label label (λ m. flows m l) && all_below flows labels l

-- A row that sets a slot passes when the control label γ and the labels of the slots that it reads are at or below the target's.
abbrev pub set_passes : (ℕ → ℕ → Bool) → ℕ → List (Option ℕ) → Option ℕ → Bool
set_passes flows γ reads target = has_label target (λ l. flows γ l && all_below flows reads l)

-- the control label inside a block, given the one outside and the guard's label
abbrev pub raised : (ℕ → ℕ → ℕ) → ℕ → Option ℕ → ℕ
raised joins γ None = γ
raised joins γ (Some l) = joins γ l

abbrev pub inside : (ℕ → ℕ → ℕ) → (ℕ → Option ℕ) → ℕ → ℕ → ℕ
inside joins Γ γ guard = raised joins γ (Γ guard)

module _ (flows : ℕ → ℕ → Bool) (joins : ℕ → ℕ → ℕ) (Γ : ℕ → Option ℕ) where
  -- The verdict on a row under the runner's label p and the control label γ. A while row passes when the control label joined with the guard's
  -- is at or below the runner's. Every other row passes, but for an if whose guard, named by byte 3, is not listed.
  abbrev pub verdict : ℕ → ℕ → Row → Option RowReason
  verdict p γ Idle = None
  verdict p γ (PutConstant target k) = unless_passed (set_passes flows γ [] (Γ target)) SetNotPassed
  verdict p γ (SlotWithConstant op target first k) = unless_passed (set_passes flows γ (Γ first ∷ []) (Γ target)) SetNotPassed
  verdict p γ (TwoSlots op target first second) = unless_passed (set_passes flows γ (Γ first ∷ Γ second ∷ []) (Γ target)) SetNotPassed
  verdict p γ (If guard) = unless_passed (is_listed (Γ guard)) (NotListed 3)
  verdict p γ Else = None
  verdict p γ (While guard) = unless_passed (has_label (Γ guard) (λ l. flows (joins γ l) p)) WhileNotPassed
  verdict p γ End = None

  -- The verdicts on the rows that list a block, in order. Inside a block, in both branches of an if alike, the control label is the one
  -- outside joined with the guard's.
  abbrev pub verdicts : ℕ → ℕ → Block → List (Option RowReason)
  verdicts p γ nil = []
  verdicts p γ (simple s rest) = verdict p γ (simple_row s) ∷ verdicts p γ rest
  verdicts p γ (when g a rest) =
      verdict p γ (If g) ∷ (verdicts p (inside joins Γ γ g) a ++ (verdict p γ End ∷ verdicts p γ rest))
  verdicts p γ (either g a b rest) =
      verdict p γ (If g) ∷ (verdicts p (inside joins Γ γ g) a ++ (verdict p γ Else ∷ (verdicts p (inside joins Γ γ g) b ++ (verdict p γ End ∷ verdicts p γ rest))))
  verdicts p γ (while g a rest) =
      verdict p γ (While g) ∷ (verdicts p (inside joins Γ γ g) a ++ (verdict p γ End ∷ verdicts p γ rest))

  -- What stands against a block that a person with the label p wants to run: the first row in order that does not pass, if any. The
  -- control label starts as the runner's.
  abbrev pub judged : ℕ → Block → Option RowFault
  judged p b = first_fault 0 (verdicts p p b)
