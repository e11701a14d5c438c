-- A call keeps every label. Assumes nothing.
use Rattle.std.proofs.Common.{◌≡◌, ℕ, Bool, true, false, cond, ◌⊎◌, List, ℤ, Some, None, Option, refl, inl, inr}
use Rattle.table.specs.declared.table.Slot.{Slot}
use Rattle.table.specs.Slots.{label_at, put}
use Rattle.table.proofs.Puts.{label_put}
use Rattle.sheets.specs.Programs.{Block}
use Rattle.running.specs.Running.{Outcome, done, cut, exec}
use Rattle.running.proofs.Keeping.{runs_keep}
use Rattle.noninterference.specs.Monitor.{Call, lay, view, run, Answer, laid, Fault, Monitor, refuse, settle, run_checked, lay_as, view_as, run_as, step}

module _ (s : List Slot) (i : ℕ) where
  -- what a call leaves has the labels of s
  abbrev Keeps : List Slot × Answer → Type 0
  Keeps x = label_at x.0 i ≡ label_at s i

  either_keeps : (b : Bool) (x y : List Slot × Answer) → Keeps x → Keeps y → Keeps (cond b x y)
  either_keeps true x y p q = p
  either_keeps false x y p q = q

  settled : (b : Block) (turns : ℕ) (o : Outcome) → exec b s turns ≡ o → Keeps (settle s turns o)
  settled b turns (done after left) e = (runs_keep b s after turns left e).labels i
  settled b turns cut e = refl

  ran_keeps : (turns : ℕ) (check : Fault ⊎ Block) → Keeps (run_checked check s turns)
  ran_keeps turns (inl fault) = refl
  ran_keeps turns (inr b) = settled b turns (exec b s turns) refl

  module _ (M : Monitor) where
    lay_keeps : (who slot : Option ℕ) (j : ℕ) (v : ℤ) → Keeps (lay_as M who slot s j v)
    lay_keeps None slot j v = refl
    lay_keeps (Some p) None j v = refl
    lay_keeps (Some p) (Some l) j v = either_keeps (M.flows p l) (put s j v, laid) (refuse 12 s) (label_put s j i v) refl

    view_keeps : (who slot : Option ℕ) (j : ℕ) → Keeps (view_as M who slot s j)
    view_keeps None slot j = refl
    view_keeps (Some p) None j = refl
    view_keeps (Some p) (Some l) j = either_keeps (M.flows l p) _ (refuse 13 s) refl refl

    run_keeps : (who : Option ℕ) (sheet : List ℕ) (turns : ℕ) → Keeps (run_as M who s sheet turns)
    run_keeps None sheet turns = refl
    run_keeps (Some p) sheet turns = ran_keeps turns (M.check p sheet)

    pub step_keeps : (call : Call) → Keeps (step M s call)
    step_keeps (lay n j v) = lay_keeps (M.people n) (M.labels j) j v
    step_keeps (view n j) = view_keeps (M.people n) (M.labels j) j
    step_keeps (run n sheet turns) = run_keeps (M.people n) sheet turns
