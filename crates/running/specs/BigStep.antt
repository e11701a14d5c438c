-- The rules of running, one for each thing that can happen, and what it is to agree with them. Assumes nothing.
use Rattle.std.specs.Prelude.{◌≡◌, ℕ, suc, ◌≢◌, List, pos}
use Rattle.table.specs.declared.table.Slot.{Slot}
use Rattle.table.specs.Slots.{value_at, put}
use Rattle.sheets.specs.Programs.{Expression, skip, assign, Block, nil, simple, when, either, while}
use Rattle.running.specs.Running.{Outcome, done, cut, value_of, exec}

-- `Runs b s t o`: the block b, from the slots s and with t turns, comes to the outcome o
pub data Runs : Block → List Slot → ℕ → Outcome → Type 0 where
  -- the empty block is at its end
  ended : {s : List Slot} {t : ℕ} → Runs nil s t (done s t)
  idled : {rest : Block} {s : List Slot} {t : ℕ} {o : Outcome} → Runs rest s t o → Runs (simple skip rest) s t o
  assigned : {i : ℕ} {e : Expression} {rest : Block} {s : List Slot} {t : ℕ} {o : Outcome} → Runs rest (put s i (value_of e s)) t o → Runs (simple (assign i e) rest) s t o
  -- an if without an else: its block is run if the guard is not 0
  if_passed : {g : ℕ} {a rest : Block} {s : List Slot} {t : ℕ} {o : Outcome} → value_at s g ≡ pos 0 → Runs rest s t o → Runs (when g a rest) s t o
  if_run : {g : ℕ} {a rest : Block} {s m : List Slot} {t u : ℕ} {o : Outcome} → value_at s g ≢ pos 0 → Runs a s t (done m u) → Runs rest m u o → Runs (when g a rest) s t o
  if_cut : {g : ℕ} {a rest : Block} {s : List Slot} {t : ℕ} → value_at s g ≢ pos 0 → Runs a s t cut → Runs (when g a rest) s t cut
  -- an if with an else: the first branch is run if the guard is not 0, otherwise the second
  first_run : {g : ℕ} {a b rest : Block} {s m : List Slot} {t u : ℕ} {o : Outcome} → value_at s g ≢ pos 0 → Runs a s t (done m u) → Runs rest m u o → Runs (either g a b rest) s t o
  first_cut : {g : ℕ} {a b rest : Block} {s : List Slot} {t : ℕ} → value_at s g ≢ pos 0 → Runs a s t cut → Runs (either g a b rest) s t cut
  second_run : {g : ℕ} {a b rest : Block} {s m : List Slot} {t u : ℕ} {o : Outcome} → value_at s g ≡ pos 0 → Runs b s t (done m u) → Runs rest m u o → Runs (either g a b rest) s t o
  second_cut : {g : ℕ} {a b rest : Block} {s : List Slot} {t : ℕ} → value_at s g ≡ pos 0 → Runs b s t cut → Runs (either g a b rest) s t cut
  -- a while passes on where the guard is 0; otherwise it is cut with no turn left, or takes a turn, runs its block and looks again
  while_passed : {g : ℕ} {a rest : Block} {s : List Slot} {t : ℕ} {o : Outcome} → value_at s g ≡ pos 0 → Runs rest s t o → Runs (while g a rest) s t o
  while_out_of_turns : {g : ℕ} {a rest : Block} {s : List Slot} → value_at s g ≢ pos 0 → Runs (while g a rest) s 0 cut
  while_turned : {g : ℕ} {a rest : Block} {s m : List Slot} {t u : ℕ} {o : Outcome} → value_at s g ≢ pos 0 → Runs a s t (done m u) → Runs (while g a rest) m u o → Runs (while g a rest) s (suc t) o
  while_cut : {g : ℕ} {a rest : Block} {s : List Slot} {t : ℕ} → value_at s g ≢ pos 0 → Runs a s t cut → Runs (while g a rest) s (suc t) cut

-- running gives an outcome exactly where the rules do
abbrev pub RulesAgree : Type 0
RulesAgree = (b : Block) (s : List Slot) (t : ℕ) (o : Outcome) → (Runs b s t o → exec b s t ≡ o) × (exec b s t ≡ o → Runs b s t o)
