-- One call: of a person who is not at or below ℓ it changes nothing that is seen at ℓ, and any other does the same from slot lists
-- that agree at ℓ. Assumes nothing.
use Rattle.std.proofs.Common.{◌≡◌, ℕ, ◌-◌, Bool, true, false, cond, ◌⊎◌, List, ℤ, Some, None, Option, sym, refl, ap, ◌∙◌, inl, inr, true≢false}
use Rattle.labels.specs.Laws.{Code}
use Rattle.table.specs.declared.table.Slot.{Slot}
use Rattle.sheets.specs.Programs.{Block}
use Rattle.running.specs.Running.{Outcome}
use Rattle.noninterference.specs.Noninterference.{Agree, Alike, both_done, both_cut}
use Rattle.noninterference.specs.Monitor.{Call, lay, view, run, Answer, laid, viewed, ran, refused, Fault, Monitor, caller, refuse, settle, run_checked, lay_as, view_as, run_as, step}
use Rattle.noninterference.specs.Strike.{Sound, stays_as, stays}
use Rattle.noninterference.proofs.Order.{Order, order, then}
use Rattle.noninterference.proofs.Agreement.{agree_put}
use Rattle.noninterference.proofs.Confined.{Spares, Sparing, spares_done, spares_cut, spares_refl, spares_put, exec_spares, spared_unseen}
use Rattle.noninterference.proofs.Alike.{exec_alike}

-- a call of a person who is not listed is refused
pub unlisted : (M : Monitor) (s : List Slot) (call : Call) → M.people (caller call) ≡ None → step M s call ≡ refuse 10 s
unlisted M s (lay n i v) h = rw h refl
unlisted M s (view n i) h = rw h refl
unlisted M s (run n sheet turns) h = rw h refl

module _ {M : Monitor} (ok : Sound M) where
  pub ordered : Order M.flows M.joins M.labels
  ordered = order ok.lawful ok.slot_codes

  abbrev Keeps : ℕ → List Slot → List Slot → Type 0
  Keeps p s u = Spares M.flows M.labels p s u

  settle_spares : {p : ℕ} {s : List Slot} {o : Outcome} (turns : ℕ) → Sparing M.flows M.labels p s o → Keeps p s (settle s turns o).0
  settle_spares turns (spares_done e) = e
  settle_spares turns spares_cut = spares_refl

  -- a call that is granted if a test holds
  spares_if : {p : ℕ} {s : List Slot} (z : Bool) (x y : List Slot × Answer) → (z ≡ true → Keeps p s x.0) → Keeps p s y.0 → Keeps p s (cond z x y).0
  spares_if true x y h k = h refl
  spares_if false x y h k = k

  lay_spares : (s : List Slot) (i p : ℕ) (v : ℤ) (slot : Option ℕ) → M.labels i ≡ slot → Keeps p s (lay_as M (Some p) slot s i v).0
  lay_spares s i p v None h = spares_refl
  lay_spares s i p v (Some l) h = spares_if _ _ _ (λ f. spares_put s i v h f) spares_refl

  view_spares : (s : List Slot) (i p : ℕ) (slot : Option ℕ) → Keeps p s (view_as M (Some p) slot s i).0
  view_spares s i p None = spares_refl
  view_spares s i p (Some l) = spares_if _ _ _ (λ f. spares_refl) spares_refl

  run_spares : (s : List Slot) (n p : ℕ) (sheet : List ℕ) (turns : ℕ) → M.people n ≡ Some p →
      (judged : Fault ⊎ Block) → M.check p sheet ≡ judged → Keeps p s (run_checked judged s turns).0
  run_spares s n p sheet turns h (inl fault) e = spares_refl
  run_spares s n p sheet turns h (inr b) e =
      settle_spares turns (exec_spares ordered (ok.people_codes n p h) (ok.checked n p sheet b h e) s turns)

  -- a call changes only slots that its person's label is at or below
  pub step_spares : (s : List Slot) (call : Call) (p : ℕ) → M.people (caller call) ≡ Some p → Keeps p s (step M s call).0
  step_spares s (lay n i v) p h = rw h (lay_spares s i p v (M.labels i) refl)
  step_spares s (view n i) p h = rw h (view_spares s i p (M.labels i))
  step_spares s (run n sheet turns) p h = rw h (run_spares s n p sheet turns h (M.check p sheet) refl)

-- the same answer, and slots that agree
pub record Matches (M : Monitor) (ℓ : ℕ) (x y : List Slot × Answer) : Type 0 where
  pub same_answer : x.1 ≡ y.1
  pub agree : Agree M.flows M.labels ℓ x.0 y.0

same : {M : Monitor} {ℓ : ℕ} {s u : List Slot} (a : Answer) → Agree M.flows M.labels ℓ s u → Matches M ℓ (s, a) (u, a)
same a e = record { same_answer = refl; agree = e }

matches_if : {M : Monitor} {ℓ : ℕ} {x y x' y' : List Slot × Answer} (z : Bool) → (z ≡ true → Matches M ℓ x x') → Matches M ℓ y y' →
    Matches M ℓ (cond z x y) (cond z x' y')
matches_if true h k = h refl
matches_if false h k = k

settle_alike : {M : Monitor} {ℓ : ℕ} {s u : List Slot} {o r : Outcome} (turns : ℕ) → Agree M.flows M.labels ℓ s u →
    Alike M.flows M.labels ℓ o r → Matches M ℓ (settle s turns o) (settle u turns r)
settle_alike turns e (both_done {left} f) = same (ran (turns - left)) f
settle_alike turns e both_cut = same (refused 33 0 0 turns) e

module _ {M : Monitor} (ok : Sound M) {ℓ : ℕ} (cℓ : Code ℓ) where
  -- a call that is struck out
  pub hidden : (s : List Slot) (call : Call) → stays M ℓ call ≡ false → Agree M.flows M.labels ℓ s (step M s call).0
  hidden s call = go (M.people (caller call)) refl
    where
      go : (who : Option ℕ) → M.people (caller call) ≡ who → stays_as M ℓ who ≡ false → Agree M.flows M.labels ℓ s (step M s call).0
      go None h b = absurd (true≢false b)
      go (Some p) h b = spared_unseen (ordered ok) (ok.people_codes _ p h) cℓ (λ f. true≢false (sym f ∙ b)) (step_spares ok s call p h)

  -- a call that is left
  module _ {s u : List Slot} (e : Agree M.flows M.labels ℓ s u) where
    lay_matches : (i : ℕ) (v : ℤ) (who slot : Option ℕ) → Matches M ℓ (lay_as M who slot s i v) (lay_as M who slot u i v)
    lay_matches i v None slot = same _ e
    lay_matches i v (Some p) None = same _ e
    lay_matches i v (Some p) (Some l) = matches_if _ (λ f. same laid (agree_put i v v e (λ m mi g. refl))) (same _ e)

    view_matches : (n i : ℕ) (who slot : Option ℕ) → M.people n ≡ who → M.labels i ≡ slot → stays_as M ℓ who ≡ true →
        Matches M ℓ (view_as M who slot s i) (view_as M who slot u i)
    view_matches n i None slot h k b = same _ e
    view_matches n i (Some p) None h k b = same _ e
    view_matches n i (Some p) (Some l) h k b = matches_if _ (λ f.
        let seen = then (ordered ok) (ok.slot_codes i l k) (ok.people_codes n p h) cℓ f b in
        record { same_answer = ap viewed (e.same_seen i l k seen); agree = e })
        (same _ e)

    run_matches : (n p : ℕ) (sheet : List ℕ) (turns : ℕ) → M.people n ≡ Some p → M.flows p ℓ ≡ true →
        (judged : Fault ⊎ Block) → M.check p sheet ≡ judged → Matches M ℓ (run_checked judged s turns) (run_checked judged u turns)
    run_matches n p sheet turns h low (inl fault) k = same _ e
    run_matches n p sheet turns h low (inr b) k =
        let cp = ok.people_codes n p h in
        settle_alike turns e
        (exec_alike (ordered ok) cp cℓ (λ a ca f. then (ordered ok) ca cp cℓ f low) cp (ok.checked n p sheet b h k) s u turns e)

    runner_matches : (n : ℕ) (sheet : List ℕ) (turns : ℕ) (who : Option ℕ) → M.people n ≡ who → stays_as M ℓ who ≡ true →
        Matches M ℓ (run_as M who s sheet turns) (run_as M who u sheet turns)
    runner_matches n sheet turns None h b = same _ e
    runner_matches n sheet turns (Some p) h b = run_matches n p sheet turns h b (M.check p sheet) refl

    pub matches : (call : Call) → stays M ℓ call ≡ true → Matches M ℓ (step M s call) (step M u call)
    matches (lay n i v) b = lay_matches i v (M.people n) (M.labels i)
    matches (view n i) b = view_matches n i (M.people n) (M.labels i) refl refl b
    matches (run n sheet turns) b = runner_matches n sheet turns (M.people n) refl b
