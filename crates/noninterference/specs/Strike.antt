-- Noninterference of calls: whoever sees only what is at or below a label cannot tell whether the calls of others were made.
-- Assumes nothing.
use Rattle.std.specs.Prelude.{◌≡◌, ℕ, Bool, true, cond, List, [], ◌∷◌, ◌++◌, length, Some, None, Option}
use Rattle.std.proofs.Common.{inr}
use Rattle.labels.specs.Laws.{Code, Lawful}
use Rattle.table.specs.declared.table.Slot.{Slot}
use Rattle.table.specs.Slots.{value_at, label_at}
use Rattle.sheets.specs.Programs.{Block}
use Rattle.judging.specs.Typing.{Typed}
use Rattle.noninterference.specs.Noninterference.{Codes, Agree}
use Rattle.noninterference.specs.Monitor.{Call, Answer, Monitor, caller, step, answers, final}

-- what is asked of a monitor: its scheme is lawful, its labels are codes, and the sheets that pass its check are typed
pub record Sound (M : Monitor) : Type 0 where
  pub lawful : Lawful M.flows M.joins M.bits
  pub people_codes : Codes M.people
  pub slot_codes : Codes M.labels
  pub checked : (n p : ℕ) (sheet : List ℕ) (b : Block) → M.people n ≡ Some p → M.check p sheet ≡ inr b →
      Typed M.flows M.joins M.labels p p b

module _ (M : Monitor) (ℓ : ℕ) where
  -- a person at or below ℓ stays; one who is not listed is refused whatever the call, and stays too
  abbrev pub stays_as : Option ℕ → Bool
  stays_as None = true
  stays_as (Some p) = M.flows p ℓ

  abbrev pub stays : Call → Bool
  stays call = stays_as (M.people (caller call))

  -- the calls that are left when every call of a person not at or below ℓ is struck out
  abbrev pub strike : List Call → List Call
  strike [] = []
  strike (call ∷ calls) = cond (stays call) (call ∷ strike calls) (strike calls)

  -- of the answers to these calls, those to the calls that are left
  abbrev pub kept : List Call → List Answer → List Answer
  kept [] replies = []
  kept (call ∷ calls) [] = []
  kept (call ∷ calls) (reply ∷ replies) = cond (stays call) (reply ∷ kept calls replies) (kept calls replies)

-- the person who makes the call is listed with a label that is at or below the label of slot i
abbrev pub MayChange : Monitor → ℕ → Call → Type 0
MayChange M i call = (p : ℕ) × (l : ℕ) × (M.people (caller call) ≡ Some p) × (M.labels i ≡ Some l) × (M.flows p l ≡ true)

-- one of these calls is of a person who may change slot i
pub record ChangedBy (M : Monitor) (i : ℕ) (calls : List Call) : Type 0 where
  pub front : List Call
  pub call : Call
  pub rest : List Call
  pub parts : calls ≡ front ++ (call ∷ rest)
  pub may : MayChange M i call

-- The laws of every list of calls on a box, from the slots that it has before the first of them.
pub record Untraced (M : Monitor) (slots : List Slot) : Type 0 where
  -- a slot is changed only by calls of people at or below its label, whatever calls were made before
  pub changes : (before : List Call) (call : Call) (i : ℕ) →
      ¬ (value_at (step M (final M slots before) call).0 i ≡ value_at (final M slots before) i) → MayChange M i call
  -- so a slot that ends with another value was changed by one of the calls, of such a person
  pub touched : (calls : List Call) (i : ℕ) → ¬ (value_at (final M slots calls) i ≡ value_at slots i) → ChangedBy M i calls
  -- each call that is left gets the same answer with the struck calls and without them
  pub answered : (ℓ : ℕ) → Code ℓ → (calls : List Call) → kept M ℓ calls (answers M slots calls) ≡ answers M slots (strike M ℓ calls)
  -- every slot at or below ℓ ends with the same value with the struck calls and without them
  pub ended : (ℓ : ℕ) → Code ℓ → (calls : List Call) (i l : ℕ) → M.labels i ≡ Some l → M.flows l ℓ ≡ true →
      value_at (final M slots calls) i ≡ value_at (final M slots (strike M ℓ calls)) i
  -- call by call: one that is left is answered after all the calls before it as after those of them that are left
  pub each : (ℓ : ℕ) → Code ℓ → (before : List Call) (call : Call) → stays M ℓ call ≡ true →
      (step M (final M slots before) call).1 ≡ (step M (final M slots (strike M ℓ before)) call).1
  -- whatever the others did instead, the calls that are left are answered alike
  pub instead : (ℓ : ℕ) → Code ℓ → (calls others : List Call) → strike M ℓ calls ≡ strike M ℓ others →
      kept M ℓ calls (answers M slots calls) ≡ kept M ℓ others (answers M slots others)
  -- the labels, and how many slots there are, never change
  pub labels_stay : (calls : List Call) → label_at (final M slots calls) ≡ label_at slots
  pub size_stays : (calls : List Call) → length (final M slots calls) ≡ length slots

-- Two boxes, one of which has all the calls, the other those that are left: an observer at ℓ cannot tell which is which.
pub record Indistinguishable (M : Monitor) (ℓ : ℕ) (s u : List Slot) (calls : List Call) : Type 0 where
  pub answered : kept M ℓ calls (answers M s calls) ≡ answers M u (strike M ℓ calls)
  pub ended : Agree M.flows M.labels ℓ (final M s calls) (final M u (strike M ℓ calls))

-- Struck calls leave no trace. Of the laws of the scheme the proof uses the four that `Noninterference` does.
pub record StrikeTheorem : Type 0 where
  pub two_boxes : (M : Monitor) → Sound M → (ℓ : ℕ) → Code ℓ → (s u : List Slot) → Agree M.flows M.labels ℓ s u →
      (calls : List Call) → Indistinguishable M ℓ s u calls
  pub one_box : (M : Monitor) → Sound M → (slots : List Slot) → Untraced M slots
