-- Typed blocks do not interfere. Assumes nothing.
use Rattle.std.proofs.Common.{◌≡◌, ℕ, Bool, true, List, Some, None, Option, sym, refl, subst, inl, inr, arith}
use Rattle.labels.specs.Laws.{Code}
use Rattle.table.specs.declared.table.Slot.{Slot}
use Rattle.table.specs.Slots.{value_at}
use Rattle.sheets.specs.Programs.{Block}
use Rattle.running.specs.Running.{Outcome, done, exec}
use Rattle.judging.specs.Typing.{Typed}
use Rattle.noninterference.specs.Noninterference.{Noninterfering, Noninterference}
use Rattle.noninterference.proofs.Order.{decided, Order, order, then, one_label}
use Rattle.noninterference.proofs.Confined.{Spares, Sparing, spares_done, spares_cut, exec_spares, spared_unseen}
use Rattle.noninterference.proofs.Alike.{exec_alike}

none_some : (o : Option ℕ) (l : ℕ) → o ≡ None → o ≡ Some l → ⊥
none_some o l p q = let z : ◌≡◌ {A = ℕ} 0 1 = cc in omega arith

-- a slot that is not spared is listed, with a label that γ is at or below
pub changed : {flows : ℕ → ℕ → Bool} {Γ : ℕ → Option ℕ} {γ : ℕ} {s u : List Slot} → Spares flows Γ γ s u →
    (i : ℕ) → ¬ (value_at u i ≡ value_at s i) → (l : ℕ) × (Γ i ≡ Some l) × (flows γ l ≡ true)
changed {flows} {Γ} {γ} e i n = go (Γ i) refl
  where
    go : (slot : Option ℕ) → Γ i ≡ slot → (l : ℕ) × (Γ i ≡ Some l) × (flows γ l ≡ true)
    go None k = absurd (n (sym (e.same_spared i (λ l li f. none_some _ l k li))))
    go (Some l) k = elim (decided (flows γ l)) [
      | inl f ↦ (l, k, f)
      | inr no' ↦ absurd (n (sym (e.same_spared i (λ m mi f. no' (subst (λ x. flows γ x ≡ true) (one_label Γ i mi k) f)))))
    ]

module _ {flows : ℕ → ℕ → Bool} {joins : ℕ → ℕ → ℕ} {Γ : ℕ → Option ℕ} (ok : Order flows joins Γ) {p : ℕ} (cp : Code p) {b : Block}
    (typed : Typed flows joins Γ p p b) where
  ended : {s : List Slot} (u : List Slot) (left : ℕ) {o : Outcome} → Sparing flows Γ p s o → o ≡ done u left → Spares flows Γ p s u
  ended {s} u left (spares_done {u = v} e) q = let same : v ≡ u = cc in subst (λ x. Spares flows Γ p s x) same e
  ended u left spares_cut q = absurd (let z : ◌≡◌ {A = ℕ} 0 1 = cc in omega arith)

  run_spares : (s u : List Slot) (t left : ℕ) → exec b s t ≡ done u left → Spares flows Γ p s u
  run_spares s u t left q = ended u left (exec_spares ok cp typed s t) q

  pub noninterfering : Noninterfering flows Γ p b
  noninterfering = record {
    seen = λ ℓ cℓ low s u t e. exec_alike ok cp cℓ (λ a ca f. then ok ca cp cℓ f low) cp typed s u t e;
    unseen = λ ℓ cℓ n s u t left q. spared_unseen ok cp cℓ n (run_spares s u t left q);
    told = λ s u t e. exec_alike ok cp cp (λ a ca f. f) cp typed s u t e;
    confined = λ s u t left i q n. changed (run_spares s u t left q) i n;
    labels_stay = λ s u t left i q. sym ((run_spares s u t left q).same_labels i);
    size_stays = λ s u t left q. sym (run_spares s u t left q).same_size;
  }

pub noninterference : Noninterference
noninterference flows joins bits laws Γ codes p cp b typed = noninterfering (order laws codes) cp typed
