-- From slot lists that agree at ℓ, a typed block does the same as far as is seen at ℓ, if the runner is at or below ℓ.
-- Assumes nothing.
use Rattle.std.proofs.Common.{◌≡◌, ℕ, zero, suc, Bool, true, false, cond, ◌⊎◌, List, Some, Option, refl, ap, subst, ap₂, inl, inr, true≢false}
use mathlib.Core.Bool.{false≢true}
use Rattle.labels.specs.Laws.{Code}
use Rattle.operations.specs.Operations.{applied}
use Rattle.table.specs.declared.table.Slot.{Slot}
use Rattle.sheets.specs.Programs.{Expression, Block}
use Rattle.running.specs.Running.{Outcome, done, value_of, is_nonzero, holds, and_then, rounds, exec}
use Rattle.judging.specs.Typing.{Reads, reads_constant, reads_with_constant, reads_two_slots, Typed, typed_nil, typed_skip, typed_assign, typed_when, typed_either, typed_while}
use Rattle.noninterference.specs.Noninterference.{Agree, Alike, both_done, both_cut}
use Rattle.noninterference.proofs.Order.{decided, Order, code_of, joined, then, right_of, one_label}
use Rattle.noninterference.proofs.Agreement.{agree_refl, agree_sym, agree_trans, agree_put}
use Rattle.noninterference.proofs.Confined.{Sparing, spares_done, Quick, quick, exec_spares, exec_quick, spared_unseen}

-- a run from s that took none of t turns and changed nothing that is seen at ℓ
data Quiet (flows : ℕ → ℕ → Bool) (Γ : ℕ → Option ℕ) (ℓ : ℕ) (s : List Slot) (t : ℕ) : Outcome → Type 0 where
  quiet : {u : List Slot} → Agree flows Γ ℓ s u → Quiet flows Γ ℓ s t (done u t)

module _ {flows : ℕ → ℕ → Bool} {Γ : ℕ → Option ℕ} {ℓ : ℕ} where
  alike_cond : {v w x y : Outcome} (a b : Bool) → a ≡ b → Alike flows Γ ℓ v x → Alike flows Γ ℓ w y → Alike flows Γ ℓ (cond a v w) (cond b x y)
  alike_cond true true e h k = h
  alike_cond true false e h k = absurd (true≢false e)
  alike_cond false true e h k = absurd (false≢true e)
  alike_cond false false e h k = k

  alike_then : {o r : Outcome} {go on : List Slot → ℕ → Outcome} → Alike flows Γ ℓ o r →
      ((s u : List Slot) (t : ℕ) → Agree flows Γ ℓ s u → Alike flows Γ ℓ (go s t) (on u t)) → Alike flows Γ ℓ (and_then o go) (and_then r on)
  alike_then (both_done {s} {u} {left} e) more = more s u left e
  alike_then both_cut more = both_cut

  alike_rounds : (g : ℕ) (body : List Slot → ℕ → Outcome) → ((s u : List Slot) → Agree flows Γ ℓ s u → holds g s ≡ holds g u) →
      ((s u : List Slot) (t : ℕ) → Agree flows Γ ℓ s u → Alike flows Γ ℓ (body s t) (body u t)) →
      (bound : ℕ) (s u : List Slot) (t : ℕ) → Agree flows Γ ℓ s u → Alike flows Γ ℓ (rounds bound g body s t) (rounds bound g body u t)
  alike_rounds g body look h zero s u t e = alike_cond _ _ (look s u e) both_cut (both_done e)
  alike_rounds g body look h (suc bound) s u zero e = alike_cond _ _ (look s u e) both_cut (both_done e)
  alike_rounds g body look h (suc bound) s u (suc t) e =
      alike_cond _ _ (look s u e) (alike_then (h s u t e) (alike_rounds g body look h bound)) (both_done e)

  quiet_cond : {s : List Slot} {t : ℕ} {x y : Outcome} (z : Bool) → Quiet flows Γ ℓ s t x → Quiet flows Γ ℓ s t y → Quiet flows Γ ℓ s t (cond z x y)
  quiet_cond true hx hy = hx
  quiet_cond false hx hy = hy

  quiet_alike : {s u : List Slot} {t : ℕ} {o r : Outcome} → Agree flows Γ ℓ s u → Quiet flows Γ ℓ s t o → Quiet flows Γ ℓ u t r → Alike flows Γ ℓ o r
  quiet_alike e (quiet f) (quiet g) = both_done (agree_trans (agree_sym f) (agree_trans e g))

-- The runner is at or below ℓ: said of the labels at or below the runner's, so that ℓ may be the runner's label itself.
module _ {flows : ℕ → ℕ → Bool} {joins : ℕ → ℕ → ℕ} {Γ : ℕ → Option ℕ} (ok : Order flows joins Γ) {p ℓ : ℕ} (cp : Code p) (cℓ : Code ℓ)
    (low : (a : ℕ) → Code a → flows a p ≡ true → flows a ℓ ≡ true) where
  -- a block under a control label that is not at or below ℓ
  exec_quiet : {κ : ℕ} {b : Block} → Code κ → (flows κ ℓ ≡ true → ⊥) → Typed flows joins Γ p κ b →
      (s : List Slot) (t : ℕ) → Quiet flows Γ ℓ s t (exec b s t)
  exec_quiet {κ} cκ n b s t = go (exec_quick ok cp cκ (λ f. n (low κ cκ f)) b s t) (exec_spares ok cκ b s t)
    where
      go : {o : Outcome} → Quick t o → Sparing flows Γ κ s o → Quiet flows Γ ℓ s t o
      go quick (spares_done e) = quiet (spared_unseen ok cκ cℓ n e)

  -- what is read under a label that is at or below ℓ is the same
  value_alike : {m : ℕ} {e : Expression} {s u : List Slot} → Code m → Reads flows joins Γ m e → flows m ℓ ≡ true →
      Agree flows Γ ℓ s u → value_of e s ≡ value_of e u
  value_alike cm reads_constant f e = refl
  value_alike cm (reads_with_constant {op} {a} {m = l} {k} la fa) f e =
      ap (λ x. applied op x k) (e.same_seen a l la (then ok (code_of ok la) cm cℓ fa f))
  value_alike cm (reads_two_slots {op} {a} {b} {m = l} {n} la fa lb fb) f e =
      ap₂ (applied op)
      (e.same_seen a l la (then ok (code_of ok la) cm cℓ fa f))
      (e.same_seen b n lb (then ok (code_of ok lb) cm cℓ fb f))

  -- A choice by a guard: seen at ℓ, it falls the same way. Unseen, it may not, but then neither side does what is seen.
  choose : {l t : ℕ} {s u : List Slot} {v w x y : Outcome} (g : ℕ) → Γ g ≡ Some l → Agree flows Γ ℓ s u →
      Alike flows Γ ℓ v x → Alike flows Γ ℓ w y →
      ((flows l ℓ ≡ true → ⊥) → Quiet flows Γ ℓ s t v × Quiet flows Γ ℓ s t w × Quiet flows Γ ℓ u t x × Quiet flows Γ ℓ u t y) →
      Alike flows Γ ℓ (cond (holds g s) v w) (cond (holds g u) x y)
  choose {l} {t} {s} {u} {v} {w} {x} {y} g lg e h k hidden = go (decided (flows l ℓ))
    where
      go : (flows l ℓ ≡ true) ⊎ (flows l ℓ ≡ true → ⊥) → Alike flows Γ ℓ (cond (holds g s) v w) (cond (holds g u) x y)
      go (inl f) = alike_cond _ _ (ap is_nonzero (e.same_seen g l lg f)) h k
      go (inr n) =
          let q = hidden n in
          quiet_alike e (quiet_cond (holds g s) q.0 q.1) (quiet_cond (holds g u) q.2 q.3)

  pub exec_alike : {γ : ℕ} {b : Block} → Code γ → Typed flows joins Γ p γ b →
      (s u : List Slot) (t : ℕ) → Agree flows Γ ℓ s u → Alike flows Γ ℓ (exec b s t) (exec b u t)
  exec_alike cγ typed_nil s u t e = both_done e
  exec_alike cγ (typed_skip r) s u t e = exec_alike cγ r s u t e
  exec_alike cγ (typed_assign {i} {l} {e = x} li f re r) s u t e =
      exec_alike cγ r _ _ t (agree_put i (value_of x s) (value_of x u) e
      (λ m mi g. value_alike (code_of ok li) re (subst (λ n. flows n ℓ ≡ true) (one_label Γ i mi li) g) e))
  exec_alike {γ} cγ (typed_when {g} {l} lg a r) s u t e =
      let cg = code_of ok lg in
      let cκ = joined ok cγ cg in
      alike_then
      (choose {t = t} g lg e (exec_alike cκ a s u t e) (both_done e) (λ n.
      let high = λ (f : flows (joins γ l) ℓ ≡ true). n (right_of ok cγ cg cℓ f) in
      (exec_quiet cκ high a s t, quiet agree_refl, exec_quiet cκ high a u t, quiet agree_refl)))
      (exec_alike cγ r)
  exec_alike {γ} cγ (typed_either {g} {l} lg a b r) s u t e =
      let cg = code_of ok lg in
      let cκ = joined ok cγ cg in
      alike_then
      (choose {t = t} g lg e (exec_alike cκ a s u t e) (exec_alike cκ b s u t e) (λ n.
      let high = λ (f : flows (joins γ l) ℓ ≡ true). n (right_of ok cγ cg cℓ f) in
      (exec_quiet cκ high a s t, exec_quiet cκ high b s t, exec_quiet cκ high a u t, exec_quiet cκ high b u t)))
      (exec_alike cγ r)
  exec_alike cγ (typed_while {g} {l} lg f a r) s u t e =
      let cg = code_of ok lg in
      let seen : flows l ℓ ≡ true = low l cg (right_of ok cγ cg cp f) in
      alike_then
      (alike_rounds g _ (λ v w d. ap is_nonzero (d.same_seen g l lg seen)) (exec_alike (joined ok cγ cg) a) t s u t e)
      (exec_alike cγ r)
