-- Small blocks and monitors, to show that what the theorems ask can be met, and that what they say can fail: a block for each way
-- to tell what stands in slot 1 to a person who may not view it. Assumes nothing.
--
-- There are slots 0 and 1 and people 0 and 1, with the labels 0 and 5, ordered as numbers. The runner is person 0.
use Rattle.std.specs.Prelude.{◌≡◌, ℕ, zero, suc, max, List, [], ◌∷◌, ℤ, pos, Some, None, Option, nat_le}
use Rattle.std.proofs.Common.{inr}
use Rattle.labels.specs.Laws.{Code}
use Rattle.operations.specs.declared.operation.Operation.TheVariants.{Lesser}
use Rattle.table.specs.declared.table.Slot.{Slot}
use Rattle.sheets.specs.Programs.{constant, with_constant, two_slots, skip, assign, Block, nil, simple, when, either, while}
use Rattle.judging.specs.Typing.{Typed}
use Rattle.noninterference.specs.Noninterference.{Noninterfering}
use Rattle.noninterference.specs.Monitor.{Call, Monitor, answers}
use Rattle.noninterference.specs.Strike.{Sound, Untraced, kept, strike}

abbrev pub two_labels : ℕ → Option ℕ
two_labels zero = Some 0
two_labels (suc zero) = Some 5
two_labels (suc (suc i)) = None

abbrev pub two_values : ℤ → ℤ → List Slot
two_values v w = record { label = Some 0; value = v } ∷ record { label = Some 5; value = w } ∷ []

-- slot 1 becomes what slot 0 is
abbrev pub copies_up : Block
copies_up = simple (assign 1 (two_slots Lesser 0 0)) nil

-- every rule is used: a loop and an if on slot 0, and inside them an if with an else on slot 1, which writes slot 1 alone
abbrev pub every_rule : Block
every_rule = while 0
    (either 1 (simple (assign 1 (constant (pos 0))) nil) (simple (assign 1 (two_slots Lesser 0 1)) nil)
    (when 0 (simple skip nil)
    (simple (assign 0 (with_constant Lesser 0 (pos 0))) nil)))
    nil

-- slot 0 becomes what slot 1 is
abbrev pub copies_down : Block
copies_down = simple (assign 0 (two_slots Lesser 1 1)) nil

-- slot 0 becomes 1 if slot 1 is not 0
abbrev pub branches : Block
branches = when 1 (simple (assign 0 (constant (pos 1))) nil) nil

-- a turn is taken if slot 1 is not 0
abbrev pub takes_turns : Block
takes_turns = while 1 (simple (assign 1 (constant (pos 0))) nil) nil

-- every sheet stands for this block, and passes
abbrev pub monitor_with : Block → Monitor
monitor_with b = record {
  flows = nat_le;
  joins = max;
  bits = 64;
  people = two_labels;
  labels = two_labels;
  check = λ p sheet. inr b;
}

-- each call that is left when others are struck out gets the same answer: the second law alone
abbrev pub AnsweredAlike : Monitor → List Slot → Type 0
AnsweredAlike M slots = (ℓ : ℕ) → Code ℓ → (calls : List Call) → kept M ℓ calls (answers M slots calls) ≡ answers M slots (strike M ℓ calls)

pub record Examples : Type 0 where
  pub up_typed : Typed nat_le max two_labels 0 0 copies_up
  pub rules_typed : Typed nat_le max two_labels 0 0 every_rule
  pub down_interferes : ¬ Noninterfering nat_le two_labels 0 copies_down
  pub down_not_typed : ¬ Typed nat_le max two_labels 0 0 copies_down
  pub branch_interferes : ¬ Noninterfering nat_le two_labels 0 branches
  pub branch_not_typed : ¬ Typed nat_le max two_labels 0 0 branches
  -- the join is what refuses it: with a control label that is never joined the block would be typed
  pub branch_unjoined : Typed nat_le (λ γ l. γ) two_labels 0 0 branches
  pub turns_interfere : ¬ Noninterfering nat_le two_labels 0 takes_turns
  pub turns_not_typed : ¬ Typed nat_le max two_labels 0 0 takes_turns
  pub up_sound : Sound (monitor_with copies_up)
  pub down_traced : ¬ Untraced (monitor_with copies_down) (two_values (pos 0) (pos 0))
  -- the answers alone give it away
  pub down_told : ¬ AnsweredAlike (monitor_with copies_down) (two_values (pos 0) (pos 0))
