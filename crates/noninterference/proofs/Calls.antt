-- Calls are made one by one, and a call that is refused changes nothing. Assumes nothing.
use Rattle.std.proofs.Common.{◌≡◌, ℕ, suc, Bool, true, false, cond, ◌⊎◌, List, [], ◌∷◌, ◌++◌, length, ℤ, Some, None, Option, refl, ap, inl, inr, arith}
use Rattle.table.specs.declared.table.Slot.{Slot}
use Rattle.sheets.specs.Programs.{Block}
use Rattle.running.specs.Running.{Outcome, done, cut, exec}
use Rattle.noninterference.specs.Monitor.{Call, lay, view, run, Answer, laid, refused, Fault, Monitor, settle, run_checked, lay_as, view_as, run_as, step, answers, final, CallsOneByOne}

-- a refusal by one of two outcomes of a test
kept_if : {s : List Slot} {a : Answer} (z : Bool) (x y : List Slot × Answer) → (cond z x y).1 ≡ a →
    (x.1 ≡ a → x.0 ≡ s) → (y.1 ≡ a → y.0 ≡ s) → (cond z x y).0 ≡ s
kept_if true x y q h k = h q
kept_if false x y q h k = k q

module _ (M : Monitor) (number row byte count : ℕ) where
  not_laid : {A : Type 0} → laid ≡ refused number row byte count → A
  not_laid q = absurd (let z : ◌≡◌ {A = ℕ} 0 1 = cc in omega arith)

  settle_keeps : (s : List Slot) (turns : ℕ) (o : Outcome) → (settle s turns o).1 ≡ refused number row byte count → (settle s turns o).0 ≡ s
  settle_keeps s turns (done u left) q = absurd (let z : ◌≡◌ {A = ℕ} 0 1 = cc in omega arith)
  settle_keeps s turns cut q = refl

  run_keeps : (s : List Slot) (turns : ℕ) (judged : Fault ⊎ Block) →
      (run_checked judged s turns).1 ≡ refused number row byte count → (run_checked judged s turns).0 ≡ s
  run_keeps s turns (inl fault) q = refl
  run_keeps s turns (inr b) q = settle_keeps s turns (exec b s turns) q

  lay_keeps : (s : List Slot) (i : ℕ) (v : ℤ) (who slot : Option ℕ) →
      (lay_as M who slot s i v).1 ≡ refused number row byte count → (lay_as M who slot s i v).0 ≡ s
  lay_keeps s i v None slot q = refl
  lay_keeps s i v (Some p) None q = refl
  lay_keeps s i v (Some p) (Some l) q = kept_if (M.flows p l) _ _ q not_laid (λ r. refl)

  view_keeps : (s : List Slot) (i : ℕ) (who slot : Option ℕ) →
      (view_as M who slot s i).1 ≡ refused number row byte count → (view_as M who slot s i).0 ≡ s
  view_keeps s i None slot q = refl
  view_keeps s i (Some p) None q = refl
  view_keeps s i (Some p) (Some l) q = kept_if _ _ _ q (λ r. refl) (λ r. refl)

  runner_keeps : (s : List Slot) (sheet : List ℕ) (turns : ℕ) (who : Option ℕ) →
      (run_as M who s sheet turns).1 ≡ refused number row byte count → (run_as M who s sheet turns).0 ≡ s
  runner_keeps s sheet turns None q = refl
  runner_keeps s sheet turns (Some p) q = run_keeps s turns (M.check p sheet) q

  step_keeps : (s : List Slot) (call : Call) → (step M s call).1 ≡ refused number row byte count → (step M s call).0 ≡ s
  step_keeps s (lay n i v) q = lay_keeps s i v (M.people n) (M.labels i) q
  step_keeps s (view n i) q = view_keeps s i (M.people n) (M.labels i) q
  step_keeps s (run n sheet turns) q = runner_keeps s sheet turns (M.people n) q

module _ (M : Monitor) where
  final_parts : (s : List Slot) (first more : List Call) → final M s (first ++ more) ≡ final M (final M s first) more
  final_parts s [] more = refl
  final_parts s (call ∷ first) more = final_parts (step M s call).0 first more

  answers_parts : (s : List Slot) (first more : List Call) → answers M s (first ++ more) ≡ answers M s first ++ answers M (final M s first) more
  answers_parts s [] more = refl
  answers_parts s (call ∷ first) more = ap (λ rest. (step M s call).1 ∷ rest) (answers_parts (step M s call).0 first more)

  one_answer_each : (s : List Slot) (calls : List Call) → length (answers M s calls) ≡ length calls
  one_answer_each s [] = refl
  one_answer_each s (call ∷ calls) = ap suc (one_answer_each (step M s call).0 calls)

pub one_by_one : CallsOneByOne
one_by_one M = record {
  final_parts = final_parts M;
  answers_parts = answers_parts M;
  one_answer_each = one_answer_each M;
  refused_keeps = λ s call number row byte count q. step_keeps M number row byte count s call q;
}
