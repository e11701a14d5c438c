-- Noninterference of runs: what a typed block does, seen at or below a label, depends on nothing else. Assumes nothing.
--
-- `flows a b` says that label a is at or below label b, and Γ gives the label of a slot if it is listed. An observer with the
-- label ℓ sees the slots whose labels are at or below ℓ.
use Rattle.std.specs.Prelude.{◌≡◌, ℕ, Bool, true, List, length, Some, Option}
use Rattle.labels.specs.Laws.{Code, Lawful}
use Rattle.table.specs.declared.table.Slot.{Slot}
use Rattle.table.specs.Slots.{value_at, label_at}
use Rattle.sheets.specs.Programs.{Block}
use Rattle.running.specs.Running.{Outcome, done, cut, exec}
use Rattle.judging.specs.Typing.{Typed}

-- every label that is given is a code
abbrev pub Codes : (ℕ → Option ℕ) → Type 0
Codes labels = (i l : ℕ) → labels i ≡ Some l → Code l

module _ (flows : ℕ → ℕ → Bool) (Γ : ℕ → Option ℕ) (ℓ : ℕ) where
  -- as many slots, and the same value in each slot whose label is at or below ℓ
  pub record Agree (s u : List Slot) : Type 0 where
    pub same_size : length s ≡ length u
    pub same_seen : (i l : ℕ) → Γ i ≡ Some l → flows l ℓ ≡ true → value_at s i ≡ value_at u i

  -- both runs are cut, or both come to their end with as many turns left and with slots that agree
  pub data Alike : Outcome → Outcome → Type 0 where
    both_done : {s u : List Slot} {left : ℕ} → Agree s u → Alike (done s left) (done u left)
    both_cut : Alike cut cut

-- What holds of every run of the block b by a person with the label p. (A run that is cut puts every slot back.)
pub record Noninterfering (flows : ℕ → ℕ → Bool) (Γ : ℕ → Option ℕ) (p : ℕ) (b : Block) : Type 0 where
  -- an observer whom the runner is at or below cannot tell runs apart that start alike
  pub seen : (ℓ : ℕ) → Code ℓ → flows p ℓ ≡ true → (s u : List Slot) (t : ℕ) →
      Agree flows Γ ℓ s u → Alike flows Γ ℓ (exec b s t) (exec b u t)
  -- any other observer cannot tell that there was a run
  pub unseen : (ℓ : ℕ) → Code ℓ → ¬ (flows p ℓ ≡ true) → (s u : List Slot) (t left : ℕ) → exec b s t ≡ done u left → Agree flows Γ ℓ s u
  -- what the runner is told, a cut or the turns taken, depends only on slots at or below the runner's label
  pub told : (s u : List Slot) (t : ℕ) → Agree flows Γ p s u → Alike flows Γ p (exec b s t) (exec b u t)
  -- a slot that is changed is listed, and the runner's label is at or below its label
  pub confined : (s u : List Slot) (t left i : ℕ) → exec b s t ≡ done u left → ¬ (value_at u i ≡ value_at s i) →
      (l : ℕ) × (Γ i ≡ Some l) × (flows p l ≡ true)
  -- every slot keeps its label
  pub labels_stay : (s u : List Slot) (t left i : ℕ) → exec b s t ≡ done u left → label_at u i ≡ label_at s i
  pub size_stays : (s u : List Slot) (t left : ℕ) → exec b s t ≡ done u left → length u ≡ length s

-- A block that is typed with the runner's label as its control label does not interfere.
-- Of the laws of the scheme the proof uses four: the order is transitive, each of two labels is at or below their join, and
-- the join of two codes is a code.
abbrev pub Noninterference : Type 0
Noninterference = (flows : ℕ → ℕ → Bool) (joins : ℕ → ℕ → ℕ) (bits : ℕ) → Lawful flows joins bits →
    (Γ : ℕ → Option ℕ) → Codes Γ → (p : ℕ) → Code p → (b : Block) → Typed flows joins Γ p p b → Noninterfering flows Γ p b
