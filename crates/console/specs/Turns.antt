-- One call line on a box: what is printed for it, and the slots after it. Assumes nothing.
use Rattle.std.specs.Prelude.{◌≡◌, ℕ, List, Some, None, Option}
use Rattle.table.specs.declared.table.Slot.{Slot}
use Rattle.table.specs.declared.table.Table.{Table}
use Rattle.noninterference.specs.Monitor.{Call, Monitor, step}
use Rattle.console.specs.Scheme.{window_of}
use Rattle.console.specs.Console.{answer_line, faulty_line}

module _ (M : Monitor) (slots : List Slot) where
  abbrev pub reply : Option Call → List ℕ
  reply None = faulty_line
  reply (Some call) = answer_line (step M slots call).1

  abbrev pub slots_after : Option Call → List Slot
  slots_after None = slots
  slots_after (Some call) = (step M slots call).0

-- A box whose table was `before` prints `text` for a line, and its table is `after`.
pub record Turned (before : Table) (call : Option Call) (text : List ℕ) (after : Table) : Type 0 where
  pub printed : text ≡ reply (window_of before) before.slots call
  pub slots : after.slots ≡ slots_after (window_of before) before.slots call
  pub people : after.people ≡ before.people
