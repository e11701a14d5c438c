-- Lists of calls, call by call from what one call does. Assumes nothing.
use Rattle.std.proofs.Common.{◌≡◌, ℕ, Bool, true, false, cond, eqb, ◌⊎◌, List, [], ◌∷◌, length, ℤ, pos, negsuc, Some, None, Option, sym, refl, ap, ◌∙◌, subst, ap₂, inl, inr, arith}
use mathlib.Core.Path.{fun_ext}
use Rattle.std.proofs.lemmas.Bool.{eqb-true, eqb-false}
use Rattle.labels.specs.Laws.{Code}
use Rattle.table.specs.declared.table.Slot.{Slot}
use Rattle.table.specs.Slots.{value_at, label_at}
use Rattle.noninterference.specs.Noninterference.{Agree}
use Rattle.noninterference.specs.Monitor.{Call, Answer, Monitor, caller, step, answers, final}
use Rattle.noninterference.specs.Strike.{Sound, stays, strike, kept, MayChange, ChangedBy, Indistinguishable, StrikeTheorem}
use Rattle.noninterference.proofs.Agreement.{agree_refl, agree_sym, agree_trans}
use Rattle.noninterference.proofs.Confined.{Spares, spares_refl}
use Rattle.noninterference.proofs.Noninterference.{changed}
use Rattle.noninterference.proofs.Steps.{unlisted, step_spares, hidden, matches}

-- two values are the same or not
same? : (a b : ℤ) → (a ≡ b) ⊎ ¬ (a ≡ b)
same? (pos a) (pos b) = go (eqb a b) refl
  where
    go : (z : Bool) → eqb a b ≡ z → (pos a ≡ pos b) ⊎ ¬ (pos a ≡ pos b)
    go true e = inl (ap pos (eqb-true a b e))
    go false e = inr (λ f. eqb-false a b e (cc))
same? (pos a) (negsuc b) = inr (λ f. let z : ◌≡◌ {A = ℕ} 0 1 = cc in omega arith)
same? (negsuc a) (pos b) = inr (λ f. let z : ◌≡◌ {A = ℕ} 0 1 = cc in omega arith)
same? (negsuc a) (negsuc b) = go (eqb a b) refl
  where
    go : (z : Bool) → eqb a b ≡ z → (negsuc a ≡ negsuc b) ⊎ ¬ (negsuc a ≡ negsuc b)
    go true e = inl (ap negsuc (eqb-true a b e))
    go false e = inr (λ f. eqb-false a b e (cc))

module _ {M : Monitor} (ok : Sound M) where
  -- what a call spares, whoever makes it
  spared : (s : List Slot) (call : Call) → (p : ℕ) × Spares M.flows M.labels p s (step M s call).0
  spared s call = go (M.people (caller call)) refl
    where
      go : (who : Option ℕ) → M.people (caller call) ≡ who → (p : ℕ) × Spares M.flows M.labels p s (step M s call).0
      go None h = (0, subst (λ (x : List Slot × Answer). Spares M.flows M.labels 0 s x.0) (sym (unlisted M s call h)) spares_refl)
      go (Some p) h = (p, step_spares ok s call p h)

  labels_stay : (s : List Slot) (calls : List Call) → label_at (final M s calls) ≡ label_at s
  labels_stay s [] = refl
  labels_stay s (call ∷ calls) = labels_stay (step M s call).0 calls ∙ fun_ext (λ i. sym ((spared s call).1.same_labels i))

  size_stays : (s : List Slot) (calls : List Call) → length (final M s calls) ≡ length s
  size_stays s [] = refl
  size_stays s (call ∷ calls) = size_stays (step M s call).0 calls ∙ sym (spared s call).1.same_size

  changes : (s : List Slot) (call : Call) (i : ℕ) → ¬ (value_at (step M s call).0 i ≡ value_at s i) → MayChange M i call
  changes s call i n = go (M.people (caller call)) refl
    where
      go : (who : Option ℕ) → M.people (caller call) ≡ who → MayChange M i call
      go None h = absurd (n (ap (λ (x : List Slot × Answer). value_at x.0 i) (unlisted M s call h)))
      go (Some p) h = let slot = changed (step_spares ok s call p h) i n in (p, slot.0, h, slot.1, slot.2)

  -- of the calls, the first that leaves slot i with another value
  touched : (s : List Slot) (calls : List Call) (i : ℕ) → ¬ (value_at (final M s calls) i ≡ value_at s i) → ChangedBy M i calls
  touched s [] i n = absurd (n refl)
  touched s (call ∷ calls) i n = go (same? (value_at (step M s call).0 i) (value_at s i)) (touched (step M s call).0 calls i)
    where
      later : ChangedBy M i calls → ChangedBy M i (call ∷ calls)
      later c = record { front = call ∷ c.front; call = c.call; rest = c.rest; parts = ap (λ (xs : List Call). call ∷ xs) c.parts; may = c.may }

      go : (value_at (step M s call).0 i ≡ value_at s i) ⊎ ¬ (value_at (step M s call).0 i ≡ value_at s i) →
          (¬ (value_at (final M (step M s call).0 calls) i ≡ value_at (step M s call).0 i) → ChangedBy M i calls) → ChangedBy M i (call ∷ calls)
      go (inl e) more = later (more (λ f. n (f ∙ e)))
      go (inr d) more = record { front = []; call = call; rest = calls; parts = refl; may = changes s call i d }

module _ {M : Monitor} (ok : Sound M) {ℓ : ℕ} (cℓ : Code ℓ) where
  indistinguishable : (s u : List Slot) → Agree M.flows M.labels ℓ s u → (calls : List Call) → Indistinguishable M ℓ s u calls
  indistinguishable s u e [] = record { answered = refl; ended = e }
  indistinguishable s u e (call ∷ calls) =
      let both = go (stays M ℓ call) refl (λ v w f. indistinguishable v w f calls) in
      record { answered = both.0; ended = both.1 }
    where
      go : (z : Bool) → stays M ℓ call ≡ z →
          ((v w : List Slot) → Agree M.flows M.labels ℓ v w → Indistinguishable M ℓ v w calls) →
          (cond z ((step M s call).1 ∷ kept M ℓ calls (answers M (step M s call).0 calls)) (kept M ℓ calls (answers M (step M s call).0 calls))
          ≡ answers M u (cond z (call ∷ strike M ℓ calls) (strike M ℓ calls)))
          × Agree M.flows M.labels ℓ (final M (step M s call).0 calls) (final M u (cond z (call ∷ strike M ℓ calls) (strike M ℓ calls)))
      go true b more =
          let m = matches ok cℓ e call b in
          let rest = more _ _ m.agree in
          (ap₂ ◌∷◌ m.same_answer rest.answered, rest.ended)
      go false b more =
          let rest = more _ _ (agree_trans (agree_sym (hidden ok cℓ s call b)) e) in
          (rest.answered, rest.ended)

pub struck : StrikeTheorem
struck = record {
  two_boxes = λ M ok ℓ cℓ s u e calls. indistinguishable ok cℓ s u e calls;
  one_box = λ M ok s. record {
    changes = λ before. changes ok (final M s before);
    touched = touched ok s;
    answered = λ ℓ cℓ calls. (indistinguishable ok cℓ s s agree_refl calls).answered;
    ended = λ ℓ cℓ calls i l h f. (indistinguishable ok cℓ s s agree_refl calls).ended.same_seen i l h f;
    each = λ ℓ cℓ before call b. (matches ok cℓ (indistinguishable ok cℓ s s agree_refl before).ended call b).same_answer;
    instead = λ ℓ cℓ calls others e.
        (indistinguishable ok cℓ s s agree_refl calls).answered ∙ (ap (answers M s) e ∙ sym (indistinguishable ok cℓ s s agree_refl others).answered);
    labels_stay = labels_stay ok s;
    size_stays = size_stays ok s;
  };
}
