-- Which blocks a person may run: the typing rules. Assumes nothing.
--
-- `flows a b` says that label a is at or below label b, `joins a b` is the join of two labels, and Γ gives the label of a slot if
-- it is listed. A block is typed under the runner's label p and a control label γ, which stands for all that decides whether
-- the block is run at all.
use Rattle.std.specs.Prelude.{◌≡◌, ℕ, Bool, true, ℤ, Some, Option}
use Rattle.operations.specs.declared.operation.Operation.{Operation}
use Rattle.sheets.specs.Programs.{Expression, constant, with_constant, two_slots, skip, assign, Block, nil, simple, when, either, while}

module _ (flows : ℕ → ℕ → Bool) (joins : ℕ → ℕ → ℕ) (Γ : ℕ → Option ℕ) where
  -- every slot that the expression reads is listed, with a label at or below l
  pub data Reads (l : ℕ) : Expression → Type 0 where
    reads_constant : {k : ℤ} → Reads l (constant k)
    reads_with_constant : {op : Operation} {a m : ℕ} {k : ℤ} → Γ a ≡ Some m → flows m l ≡ true → Reads l (with_constant op a k)
    reads_two_slots : {op : Operation} {a b m n : ℕ} →
        Γ a ≡ Some m → flows m l ≡ true → Γ b ≡ Some n → flows n l ≡ true → Reads l (two_slots op a b)

  pub data Typed (p : ℕ) : ℕ → Block → Type 0 where
    typed_nil : {γ : ℕ} → Typed p γ nil
    typed_skip : {γ : ℕ} {rest : Block} → Typed p γ rest → Typed p γ (simple skip rest)
    -- the control label and the labels that are read are at or below the target's
    typed_assign : {γ i l : ℕ} {e : Expression} {rest : Block} →
        Γ i ≡ Some l → flows γ l ≡ true → Reads l e → Typed p γ rest → Typed p γ (simple (assign i e) rest)
    -- inside a block the guard's label is joined to the control label, in both branches of an if alike
    typed_when : {γ g l : ℕ} {a rest : Block} →
        Γ g ≡ Some l → Typed p (joins γ l) a → Typed p γ rest → Typed p γ (when g a rest)
    typed_either : {γ g l : ℕ} {a b rest : Block} →
        Γ g ≡ Some l → Typed p (joins γ l) a → Typed p (joins γ l) b → Typed p γ rest → Typed p γ (either g a b rest)
    -- the runner learns how many turns a loop takes: what decides that is at or below his label
    typed_while : {γ g l : ℕ} {a rest : Block} →
        Γ g ≡ Some l → flows (joins γ l) p ≡ true → Typed p (joins γ l) a → Typed p γ rest → Typed p γ (while g a rest)
