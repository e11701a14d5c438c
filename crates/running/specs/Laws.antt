-- Laws of running, in the subject's own words: a loop has no bound but the turns, blocks in sequence run one after
-- the other, a run keeps the slots' number and labels and never gains a turn, and more turns change nothing but a cut.
-- Assumes nothing.
use Rattle.std.specs.Prelude.{◌≡◌, ℕ, ◌+◌, ◌≤◌, cond, List, ◌++◌, length}
use Rattle.table.specs.declared.table.Slot.{Slot}
use Rattle.table.specs.Slots.{label_at}
use Rattle.sheets.specs.Programs.{Block, while, listing, ◌⨾◌}
use Rattle.running.specs.Running.{done, holds, and_then, take_turn, exec}

-- The bound on a loop's rounds never runs out before the turns do: where the guard does not hold the loop passes on,
-- otherwise it takes a turn, runs its body and is itself again.
abbrev pub LoopsUnfold : Type 0
LoopsUnfold =
    (g : ℕ) (a rest : Block) (s : List Slot) (t : ℕ) →
    exec (while g a rest) s t ≡ cond (holds g s) (take_turn t (λ left. and_then (exec a s left) (exec (while g a rest)))) (exec rest s t)

-- One block after another is listed as the rows of the one and then those of the other, and run so
pub record InOrder (a b : Block) : Type 0 where
  pub lists : listing (a ⨾ b) ≡ listing a ++ listing b
  pub runs : (s : List Slot) (t : ℕ) → exec (a ⨾ b) s t ≡ and_then (exec a s t) (exec b)

abbrev pub SequencesRunInOrder : Type 0
SequencesRunInOrder = (a b : Block) → InOrder a b

-- what a run keeps, from its beginning to its end
pub record Kept (before : List Slot) (given : ℕ) (after : List Slot) (left : ℕ) : Type 0 where
  pub number : length after ≡ length before
  pub labels : (i : ℕ) → label_at after i ≡ label_at before i
  pub turns : left ≤ given

abbrev pub RunsKeep : Type 0
RunsKeep = (b : Block) (s after : List Slot) (t left : ℕ) → exec b s t ≡ done after left → Kept s t after left

-- the turns only cut: a run that comes to its end does the same with k more turns, and has those left too
abbrev pub MoreTurnsChangeNothing : Type 0
MoreTurnsChangeNothing =
    (b : Block) (s after : List Slot) (t left k : ℕ) → exec b s t ≡ done after left → exec b s (t + k) ≡ done after (left + k)
