-- The inner contracts of the runner: where a block stands among the rows, with the jumps at its rows right, and what the
-- two runners answer of it. They are no part of what running means, which is said in Running. Assumes nothing.
use Rattle.std.specs.Prelude.{◌≡◌, ℕ, ◌+◌, ◌<◌, min, Bool, true, false, cond, List, length, Ok, Err, Result, slice_index, slice_index_or}
use Rattle.table.specs.declared.table.Slot.{Slot}
use Rattle.rows.specs.declared.row.Row.{Row}
use Rattle.rows.specs.declared.row.Row.TheVariants.{Idle, PutConstant, SlotWithConstant, TwoSlots, If, Else, While, End}
use Rattle.sheets.specs.Programs.{constant, with_constant, two_slots, Simple, skip, assign, Block, nil, simple, when, either, while, simple_row}
use Rattle.rows.specs.Writing.{slots_of}
use Rattle.sheets.specs.Reading.{in_range}
use Rattle.running.specs.Running.{Outcome, done, cut, do_simple, holds, rounds, exec}

-- the statement of a row that opens and closes nothing
abbrev pub simple_of : Row → Simple
simple_of Idle = skip
simple_of (PutConstant target k) = assign target (constant k)
simple_of (SlotWithConstant op target first k) = assign target (with_constant op first k)
simple_of (TwoSlots op target first second) = assign target (two_slots op first second)
simple_of (If guard) = skip
simple_of Else = skip
simple_of (While guard) = skip
simple_of End = skip

-- the row r stands at i, among the first 256
pub record At (rows : List Row) (i : ℕ) (r : Row) : Type 0 where
  pub below : i < 256
  pub stands : i < length rows
  pub is : slice_index_or rows i Idle ≡ r
  pub in_table : in_range (slots_of r) ≡ true

-- The block b stands from row i up to row j, not included. The jump of a while, of an if with no else and of an else is to
-- the block's end, that of an if with an else to that else, and that of an if's end to itself.
abbrev pub Linked : List Row → List ℕ → ℕ → Block → ℕ → Type 0
Linked rows jumps i nil j = i ≡ j
Linked rows jumps i (simple s rest) j = At rows i (simple_row s) × Linked rows jumps (i + 1) rest j
Linked rows jumps i (when g a rest) j =
    let mid = slice_index_or jumps i 0 in
    At rows i (If g) × Linked rows jumps (i + 1) a mid × At rows mid End × (slice_index jumps mid ≡ mid)
    × Linked rows jumps (mid + 1) rest j
Linked rows jumps i (either g a b rest) j =
    let mid = slice_index_or jumps i 0 in
    let end = slice_index_or jumps mid 0 in
    At rows i (If g) × Linked rows jumps (i + 1) a mid × At rows mid Else × Linked rows jumps (mid + 1) b end
    × At rows end End × Linked rows jumps (end + 1) rest j
Linked rows jumps i (while g a rest) j =
    let end = slice_index_or jumps i 0 in
    At rows i (While g) × Linked rows jumps (i + 1) a end × At rows end End × Linked rows jumps (end + 1) rest j

-- some block stands from row i up to row j
pub record Stood (rows : List Row) (jumps : List ℕ) (i j : ℕ) : Type 0 where
  pub block : Block
  pub linked : Linked rows jumps i block j

-- some block that is not empty begins at row i
pub record Begun (rows : List Row) (jumps : List ℕ) (i : ℕ) : Type 0 where
  pub block : Block
  pub to : ℕ
  pub linked : Linked rows jumps i block to
  pub some : i < to

-- what follows a block's first statement
abbrev pub after : Block → Block
after nil = nil
after (simple s rest) = rest
after (when g a rest) = rest
after (either g a b rest) = rest
after (while g a rest) = rest

-- what running that first statement gives
abbrev pub first : Block → List Slot → ℕ → Outcome
first nil s t = done s t
first (simple x rest) s t = done (do_simple x s) t
first (when g a rest) s t = cond (holds g s) (exec a s t) (done s t)
first (either g a b rest) s t = cond (holds g s) (exec a s t) (exec b s t)
first (while g a rest) s t = rounds t g (exec a) s t

-- The rows that an if runs, as those from the first number up to the second: its first branch if the guard holds,
-- otherwise its second. It stands at `at`, its else or end at `mid`, and its end at `end`: with no else no row is run.
abbrev pub branch_rows : Bool → ℕ → ℕ → ℕ → ℕ × ℕ
branch_rows true at mid end = (at + 1, mid)
branch_rows false at mid end = (min (mid + 1) end, end)

-- what the block runner answers, with the slots that it leaves
abbrev pub outcome : {E : Type 0} → Result ℕ E → List Slot → Outcome
outcome (Ok left) s = done s left
outcome (Err e) s = cut

-- What the row runner answers: the row to go on with and the turns left. It ran the first statement of the block b, which
-- stands from row `at` up to row `to`, from the slots s with t turns, and leaves the slots w.
abbrev pub RowRan : {E : Type 0} → List Row → List ℕ → ℕ → Block → ℕ → List Slot → ℕ → Result (ℕ × ℕ) E → List Slot → Type 0
RowRan rows jumps at b to s t (Ok p) w = (first b s t ≡ done w p.1) × Linked rows jumps p.0 (after b) to × (at < p.0)
RowRan rows jumps at b to s t (Err e) w = first b s t ≡ cut
