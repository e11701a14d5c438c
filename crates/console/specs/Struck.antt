-- The lines that are left when the calls of others are struck out, and what is printed for them. Assumes nothing.
use Rattle.std.specs.Prelude.{◌≡◌, ℕ, Bool, true, cond, List, [], ◌∷◌, Some, None, Ok, Option}
use Rattle.labels.specs.Laws.{Code}
use Rattle.table.specs.declared.table.Slot.{Slot}
use Rattle.table.specs.declared.table.Table.{Table}
use Rattle.noninterference.specs.Monitor.{Call, Monitor}
use Rattle.noninterference.specs.Strike.{stays, Untraced}
use Rattle.console.specs.Scheme.{window_of}
use Rattle.console.specs.Console.{replies, set_up}

module _ (M : Monitor) (ℓ : ℕ) where
  -- a faulty line is of nobody, and stays
  abbrev pub line_stays : Option Call → Bool
  line_stays None = true
  line_stays (Some call) = stays M ℓ call

  -- the lines that are left when every call of a person not at or below ℓ is struck out
  abbrev pub strike_lines : List (Option Call) → List (Option Call)
  strike_lines [] = []
  strike_lines (line ∷ lines) = cond (line_stays line) (line ∷ strike_lines lines) (strike_lines lines)

  -- of the texts printed for these lines, those for the lines that are left
  abbrev pub kept_lines : List (Option Call) → List (List ℕ) → List (List ℕ)
  kept_lines [] texts = []
  kept_lines (line ∷ lines) [] = []
  kept_lines (line ∷ lines) (text ∷ texts) = cond (line_stays line) (text ∷ kept_lines lines texts) (kept_lines lines texts)

pub record Traceless (M : Monitor) (slots : List Slot) : Type 0 where
  -- the laws of every list of calls on the box
  pub untraced : Untraced M slots
  -- each line that is left has the same printed for it with the struck lines and without them
  pub printed_alike : (ℓ : ℕ) → Code ℓ → (lines : List (Option Call)) → kept_lines M ℓ lines (replies M slots lines) ≡ replies M slots (strike_lines M ℓ lines)

-- so it is in the box that an input's roster sets up, whatever lines come after it
abbrev pub LeavesNoTrace : List ℕ → Type 0
LeavesNoTrace input = (table : Table) → set_up input ≡ Ok table → Traceless (window_of table) table.slots
