-- A block's parts, and what the two runners keep. Assumes nothing.
use Rattle.std.proofs.Common.{◌≡◌, ℕ, ◌+◌, ◌<◌, Bool, true, false, List, get_or, is_err, Ok, Err, Result, arith}
use Rattle.table.specs.declared.table.Slot.{Slot}
use Rattle.rows.specs.declared.row.Row.{Row}
use Rattle.sheets.specs.Programs.{Block, nil, simple, when, either, while}
use Rattle.running.specs.Running.{exec, cut}
use Rattle.running.specs.Links.{Linked, first, after, RowRan}
use Rattle.running.proofs.Turning.{look}

-- the block that a block's first row opens, up to its else if it has one
abbrev pub body : Block → Block
body nil = nil
body (simple s rest) = nil
body (when g a rest) = a
body (either g a b rest) = a
body (while g a rest) = a

-- the block after that else
abbrev other : Block → Block
other nil = nil
other (simple s rest) = nil
other (when g a rest) = nil
other (either g a b rest) = b
other (while g a rest) = nil

-- the branch that is run
abbrev pub chosen : Bool → Block → Block
chosen true b = body b
chosen false b = other b

-- what is left to run: a block from row `at` on that gives what the whole gives
pub record Left (rows : List Row) (jumps : List ℕ) (at to : ℕ) (b : Block) (s : List Slot) (t : ℕ) (w : List Slot) (u : ℕ) : Type 0 where
  pub block : Block
  pub linked : Linked rows jumps at block to
  pub same : exec b s t ≡ exec block w u

-- a while at `at` looks at its guard, and goes on from there to what its statement gives
pub record Looking (rows : List Row) (jumps : List ℕ) (at g : ℕ) (b : Block) (to : ℕ) (s : List Slot) (t : ℕ) (w : List Slot) (u : ℕ) : Type 0 where
  pub same : first b s t ≡ look g (body b) w u
  pub next : Linked rows jumps (get_or jumps at 0 + 1) (after b) to
  pub later : at < get_or jumps at 0

-- the row runner refuses where its statement is cut
pub ran_cut : {E : Type 0} (rows : List Row) (jumps : List ℕ) (at : ℕ) (b : Block) (to : ℕ) (s : List Slot) (t : ℕ) (r : Result (ℕ × ℕ) E) (w : List Slot) → is_err r ≡ true → first b s t ≡ cut → RowRan rows jumps at b to s t r w
ran_cut rows jumps at b to s t (Ok p) w e h = let z : ◌≡◌ {A = ℕ} 0 1 = cc in absurd (omega arith)
ran_cut rows jumps at b to s t (Err x) w e h = h
