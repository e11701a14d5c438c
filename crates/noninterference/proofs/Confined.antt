-- What a typed block leaves alone: the slots that its control label is not at or below, every label and, where the control
-- label is not at or below the runner's, the turns. Assumes nothing.
use Rattle.std.proofs.Common.{◌≡◌, ℕ, zero, suc, Bool, true, false, cond, List, length, ℤ, Some, Option, sym, refl, ◌∙◌, subst}
use Rattle.labels.specs.Laws.{Code}
use Rattle.table.specs.declared.table.Slot.{Slot}
use Rattle.table.specs.Slots.{value_at, label_at, put}
use Rattle.table.proofs.Puts.{size_put, value_put_other, label_put}
use Rattle.sheets.specs.Programs.{Block}
use Rattle.running.specs.Running.{Outcome, done, cut, value_of, holds, and_then, rounds, exec}
use Rattle.judging.specs.Typing.{Typed, typed_nil, typed_skip, typed_assign, typed_when, typed_either, typed_while}
use Rattle.noninterference.specs.Noninterference.{Agree}
use Rattle.noninterference.proofs.Order.{Order, code_of, joined, then, left_of, one_label}

-- u has what s has in each slot that γ is not at or below, and in each that is not listed, and every label
pub record Spares (flows : ℕ → ℕ → Bool) (Γ : ℕ → Option ℕ) (γ : ℕ) (s u : List Slot) : Type 0 where
  pub same_size : length s ≡ length u
  pub same_labels : (i : ℕ) → label_at s i ≡ label_at u i
  pub same_spared : (i : ℕ) → ((l : ℕ) → Γ i ≡ Some l → flows γ l ≡ true → ⊥) → value_at s i ≡ value_at u i

-- and so for how a run from s ends
pub data Sparing (flows : ℕ → ℕ → Bool) (Γ : ℕ → Option ℕ) (γ : ℕ) (s : List Slot) : Outcome → Type 0 where
  spares_done : {u : List Slot} {left : ℕ} → Spares flows Γ γ s u → Sparing flows Γ γ s (done u left)
  spares_cut : Sparing flows Γ γ s cut

-- a run that took none of t turns
pub data Quick (t : ℕ) : Outcome → Type 0 where
  quick : {u : List Slot} → Quick t (done u t)

module _ {flows : ℕ → ℕ → Bool} {Γ : ℕ → Option ℕ} where
  pub spares_refl : {γ : ℕ} {s : List Slot} → Spares flows Γ γ s s
  spares_refl = record { same_size = refl; same_labels = λ i. refl; same_spared = λ i h. refl }

  pub spares_trans : {γ : ℕ} {s u v : List Slot} → Spares flows Γ γ s u → Spares flows Γ γ u v → Spares flows Γ γ s v
  spares_trans e f = record {
    same_size = e.same_size ∙ f.same_size;
    same_labels = λ i. e.same_labels i ∙ f.same_labels i;
    same_spared = λ i h. e.same_spared i h ∙ f.same_spared i h;
  }

  pub spares_put : {γ l : ℕ} (s : List Slot) (i : ℕ) (v : ℤ) → Γ i ≡ Some l → flows γ l ≡ true → Spares flows Γ γ s (put s i v)
  spares_put {γ} {l} s i v li f = record {
    same_size = sym (size_put s i v);
    same_labels = λ j. sym (label_put s i j v);
    same_spared = λ j h. sym (value_put_other s i j v (λ q. h l (subst (λ k. Γ k ≡ Some l) (sym q) li) f));
  }

  sparing_from : {γ : ℕ} {s u : List Slot} {o : Outcome} → Spares flows Γ γ s u → Sparing flows Γ γ u o → Sparing flows Γ γ s o
  sparing_from e (spares_done f) = spares_done (spares_trans e f)
  sparing_from e spares_cut = spares_cut

  sparing_cond : {γ : ℕ} {s : List Slot} {x y : Outcome} (z : Bool) → Sparing flows Γ γ s x → Sparing flows Γ γ s y → Sparing flows Γ γ s (cond z x y)
  sparing_cond true hx hy = hx
  sparing_cond false hx hy = hy

  sparing_then : {γ : ℕ} {s : List Slot} {o : Outcome} {go : List Slot → ℕ → Outcome} →
      Sparing flows Γ γ s o → ((u : List Slot) (k : ℕ) → Sparing flows Γ γ u (go u k)) → Sparing flows Γ γ s (and_then o go)
  sparing_then (spares_done {u} {left} e) more = sparing_from e (more u left)
  sparing_then spares_cut more = spares_cut

  sparing_rounds : {γ : ℕ} (g : ℕ) (body : List Slot → ℕ → Outcome) → ((s : List Slot) (t : ℕ) → Sparing flows Γ γ s (body s t)) →
      (bound : ℕ) (s : List Slot) (t : ℕ) → Sparing flows Γ γ s (rounds bound g body s t)
  sparing_rounds g body h zero s t = sparing_cond (holds g s) spares_cut (spares_done spares_refl)
  sparing_rounds g body h (suc bound) s zero = sparing_cond (holds g s) spares_cut (spares_done spares_refl)
  sparing_rounds g body h (suc bound) s (suc t) =
      sparing_cond (holds g s) (sparing_then (h s t) (sparing_rounds g body h bound)) (spares_done spares_refl)

quick_cond : {t : ℕ} {x y : Outcome} (z : Bool) → Quick t x → Quick t y → Quick t (cond z x y)
quick_cond true hx hy = hx
quick_cond false hx hy = hy

quick_then : {t : ℕ} {o : Outcome} {go : List Slot → ℕ → Outcome} → Quick t o → ((u : List Slot) (k : ℕ) → Quick k (go u k)) → Quick t (and_then o go)
quick_then {t} (quick {u}) more = more u t

module _ {flows : ℕ → ℕ → Bool} {joins : ℕ → ℕ → ℕ} {Γ : ℕ → Option ℕ} (ok : Order flows joins Γ) where
  -- what is spared under a join with γ is spared under γ
  sparing_join : {γ m : ℕ} {s : List Slot} {o : Outcome} → Code γ → Code m → Sparing flows Γ (joins γ m) s o → Sparing flows Γ γ s o
  sparing_join cγ cm (spares_done e) = spares_done (record {
    same_size = e.same_size;
    same_labels = e.same_labels;
    same_spared = λ i h. e.same_spared i (λ l li f. h l li (left_of ok cγ cm (code_of ok li) f));
  })
  sparing_join cγ cm spares_cut = spares_cut

  pub exec_spares : {p γ : ℕ} {b : Block} → Code γ → Typed flows joins Γ p γ b → (s : List Slot) (t : ℕ) → Sparing flows Γ γ s (exec b s t)
  exec_spares cγ typed_nil s t = spares_done spares_refl
  exec_spares cγ (typed_skip r) s t = exec_spares cγ r s t
  exec_spares cγ (typed_assign {i} {e} li f re r) s t = sparing_from (spares_put s i (value_of e s) li f) (exec_spares cγ r _ t)
  exec_spares cγ (typed_when {g} lg a r) s t =
      let cg = code_of ok lg in
      sparing_then
      (sparing_cond (holds g s) (sparing_join cγ cg (exec_spares (joined ok cγ cg) a s t)) (spares_done spares_refl))
      (exec_spares cγ r)
  exec_spares cγ (typed_either {g} lg a b r) s t =
      let cg = code_of ok lg in
      sparing_then
      (sparing_cond (holds g s)
      (sparing_join cγ cg (exec_spares (joined ok cγ cg) a s t))
      (sparing_join cγ cg (exec_spares (joined ok cγ cg) b s t)))
      (exec_spares cγ r)
  exec_spares cγ (typed_while {g} lg f a r) s t =
      let cg = code_of ok lg in
      sparing_then
      (sparing_rounds g _ (λ u k. sparing_join cγ cg (exec_spares (joined ok cγ cg) a u k)) t s t)
      (exec_spares cγ r)

  -- a block whose control label is not at or below the runner's has no `while` in it
  pub exec_quick : {p γ : ℕ} {b : Block} → Code p → Code γ → (flows γ p ≡ true → ⊥) → Typed flows joins Γ p γ b →
      (s : List Slot) (t : ℕ) → Quick t (exec b s t)
  exec_quick cp cγ n typed_nil s t = quick
  exec_quick cp cγ n (typed_skip r) s t = exec_quick cp cγ n r s t
  exec_quick cp cγ n (typed_assign li f re r) s t = exec_quick cp cγ n r _ t
  exec_quick cp cγ n (typed_when {g} lg a r) s t =
      let cg = code_of ok lg in
      quick_then
      (quick_cond (holds g s) (exec_quick cp (joined ok cγ cg) (λ f. n (left_of ok cγ cg cp f)) a s t) quick)
      (exec_quick cp cγ n r)
  exec_quick cp cγ n (typed_either {g} lg a b r) s t =
      let cg = code_of ok lg in
      quick_then
      (quick_cond (holds g s)
      (exec_quick cp (joined ok cγ cg) (λ f. n (left_of ok cγ cg cp f)) a s t)
      (exec_quick cp (joined ok cγ cg) (λ f. n (left_of ok cγ cg cp f)) b s t))
      (exec_quick cp cγ n r)
  exec_quick cp cγ n (typed_while lg f a r) s t = absurd (n (left_of ok cγ (code_of ok lg) cp f))

  -- what a label that is not at or below ℓ spares includes what is seen at ℓ
  pub spared_unseen : {γ ℓ : ℕ} {s u : List Slot} → Code γ → Code ℓ → (flows γ ℓ ≡ true → ⊥) → Spares flows Γ γ s u → Agree flows Γ ℓ s u
  spared_unseen {γ} {ℓ} cγ cℓ n e = record {
    same_size = e.same_size;
    same_seen = λ i l li f. e.same_spared i (λ m mi g.
        n (then ok cγ (code_of ok li) cℓ (subst (λ x. flows γ x ≡ true) (one_label Γ i mi li) g) f));
  }
