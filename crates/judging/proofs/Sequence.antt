-- One block after another is typed exactly when both are. Assumes nothing.
use Rattle.std.proofs.Common.{ℕ, Bool, Option}
use Rattle.sheets.specs.Programs.{Block, nil, skip, assign, simple, when, either, while, ◌⨾◌}
use Rattle.judging.specs.Typing.{Typed, typed_nil, typed_skip, typed_assign, typed_when, typed_either, typed_while}
use Rattle.judging.specs.Theorems.{SequenceRule}

module _ (flows : ℕ → ℕ → Bool) (joins : ℕ → ℕ → ℕ) (Γ : ℕ → Option ℕ) (p γ : ℕ) where
  front : (a b : Block) → Typed flows joins Γ p γ (a ⨾ b) → Typed flows joins Γ p γ a
  front nil b t = typed_nil
  front (simple skip rest) b (typed_skip t) = typed_skip (front rest b t)
  front (simple (assign i e) rest) b (typed_assign x c r t) = typed_assign x c r (front rest b t)
  front (when g a rest) b (typed_when x u t) = typed_when x u (front rest b t)
  front (either g a c rest) b (typed_either x u v t) = typed_either x u v (front rest b t)
  front (while g a rest) b (typed_while x f u t) = typed_while x f u (front rest b t)

  back : (a b : Block) → Typed flows joins Γ p γ (a ⨾ b) → Typed flows joins Γ p γ b
  back nil b t = t
  back (simple skip rest) b (typed_skip t) = back rest b t
  back (simple (assign i e) rest) b (typed_assign x c r t) = back rest b t
  back (when g a rest) b (typed_when x u t) = back rest b t
  back (either g a c rest) b (typed_either x u v t) = back rest b t
  back (while g a rest) b (typed_while x f u t) = back rest b t

  both : {a b : Block} → Typed flows joins Γ p γ a → Typed flows joins Γ p γ b → Typed flows joins Γ p γ (a ⨾ b)
  both typed_nil u = u
  both (typed_skip t) u = typed_skip (both t u)
  both (typed_assign x c r t) u = typed_assign x c r (both t u)
  both (typed_when x v t) u = typed_when x v (both t u)
  both (typed_either x v w t) u = typed_either x v w (both t u)
  both (typed_while x f v t) u = typed_while x f v (both t u)

pub sequence_rule : SequenceRule
sequence_rule flows joins Γ p γ a b =
    (λ t. (front flows joins Γ p γ a b t, back flows joins Γ p γ a b t), λ t. both flows joins Γ p γ t.0 t.1)
