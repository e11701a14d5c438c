-- How two slot lists that agree at a label are kept so. Assumes nothing.
use Rattle.std.proofs.Common.{◌≡◌, ℕ, zero, suc, Bool, true, List, [], ◌∷◌, length, ℤ, Some, Option, sym, refl, ap, ◌∙◌, subst, arith}
use native.Mathlib.Decide.{ℕ_discrete}
use Rattle.table.specs.declared.table.Slot.{Slot}
use Rattle.table.specs.Slots.{value_at, put}
use Rattle.table.proofs.Puts.{size_put, value_put_other}
use Rattle.noninterference.specs.Noninterference.{Agree}

-- two lists of one length, each with v put at i, have the same there: v, or neither has such a place
value_put_same : (s u : List Slot) (i : ℕ) (v : ℤ) → length s ≡ length u → value_at (put s i v) i ≡ value_at (put u i v) i
value_put_same [] [] i v size = refl
value_put_same [] (y ∷ u) i v size = absurd (omega arith)
value_put_same (x ∷ s) [] i v size = absurd (omega arith)
value_put_same (x ∷ s) (y ∷ u) zero v size = refl
value_put_same (x ∷ s) (y ∷ u) (suc i) v size = value_put_same s u i v (omega arith)

module _ {flows : ℕ → ℕ → Bool} {Γ : ℕ → Option ℕ} {ℓ : ℕ} where
  pub agree_refl : {s : List Slot} → Agree flows Γ ℓ s s
  agree_refl = record { same_size = refl; same_seen = λ i l h f. refl }

  pub agree_sym : {s u : List Slot} → Agree flows Γ ℓ s u → Agree flows Γ ℓ u s
  agree_sym e = record { same_size = sym e.same_size; same_seen = λ i l h f. sym (e.same_seen i l h f) }

  pub agree_trans : {s u v : List Slot} → Agree flows Γ ℓ s u → Agree flows Γ ℓ u v → Agree flows Γ ℓ s v
  agree_trans e f = record {
    same_size = e.same_size ∙ f.same_size;
    same_seen = λ i l h q. e.same_seen i l h q ∙ f.same_seen i l h q;
  }

  -- two lists that agree still do after a put into each, if what is put is the same or the slot is not seen
  pub agree_put : {s u : List Slot} (i : ℕ) (v w : ℤ) → Agree flows Γ ℓ s u →
      ((l : ℕ) → Γ i ≡ Some l → flows l ℓ ≡ true → v ≡ w) → Agree flows Γ ℓ (put s i v) (put u i w)
  agree_put {s} {u} i v w e same = record {
    same_size = size_put s i v ∙ e.same_size ∙ sym (size_put u i w);
    same_seen = λ j l h f. at j l h f (ℕ_discrete j i);
  }
    where
      at : (j l : ℕ) → Γ j ≡ Some l → flows l ℓ ≡ true → Dec (j ≡ i) → value_at (put s i v) j ≡ value_at (put u i w) j
      at j l h f (yes q) =
          subst (λ k. value_at (put s i v) k ≡ value_at (put u i w) k) (sym q)
          (value_put_same s u i v e.same_size ∙ ap (λ x. value_at (put u i x) i) (same l (subst (λ k. Γ k ≡ Some l) q h) f))
      at j l h f (no q) = value_put_other s i j v q ∙ e.same_seen j l h f ∙ sym (value_put_other u i j w q)
