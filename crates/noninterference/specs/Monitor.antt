-- The reference monitor: calls on one table of slots, the answers to them and what they change. Assumes nothing.
use Rattle.std.specs.Prelude.{◌≡◌, ℕ, ◌-◌, Bool, cond, ◌⊎◌, List, [], ◌∷◌, ◌++◌, length, ℤ, Some, None, Option}
use Rattle.std.proofs.Common.{inl, inr}
use Rattle.table.specs.declared.table.Slot.{Slot}
use Rattle.table.specs.Slots.{value_at, put}
use Rattle.sheets.specs.Programs.{Block}
use Rattle.running.specs.Running.{Outcome, done, cut, exec}

pub data Call : Type 0 where
  lay : (person slot : ℕ) (value : ℤ) → Call
  view : (person slot : ℕ) → Call
  -- a sheet is given as bytes, with the turns that the run may take
  run : (person : ℕ) (sheet : List ℕ) (turns : ℕ) → Call

pub data Answer : Type 0 where
  laid : Answer
  viewed : (value : ℤ) → Answer
  ran : (taken : ℕ) → Answer
  refused : (number row byte count : ℕ) → Answer

-- why a sheet is not run: a number, and the row and the byte that it names
pub record Fault : Type 0 where
  pub number : ℕ
  pub row : ℕ
  pub byte : ℕ

-- What never changes: the scheme, the labels of people and of slots where they are listed, and the check of a sheet, which sees
-- the runner's label and the sheet's bytes and never a value.
pub record Monitor : Type 0 where
  pub flows : ℕ → ℕ → Bool
  pub joins : ℕ → ℕ → ℕ
  pub bits : ℕ
  pub people : ℕ → Option ℕ
  pub labels : ℕ → Option ℕ
  pub check : ℕ → List ℕ → Fault ⊎ Block

-- the number of the person who makes the call
abbrev pub caller : Call → ℕ
caller (lay n i v) = n
caller (view n i) = n
caller (run n sheet turns) = n

-- nothing is changed, and nothing is named
abbrev pub refuse : ℕ → List Slot → List Slot × Answer
refuse number slots = (slots, refused number 0 0 0)

-- a run that is cut puts every slot back, and is answered with the turns that it was given
abbrev pub settle : List Slot → ℕ → Outcome → List Slot × Answer
settle slots turns (done after left) = (after, ran (turns - left))
settle slots turns cut = (slots, refused 33 0 0 turns)

abbrev pub run_checked : Fault ⊎ Block → List Slot → ℕ → List Slot × Answer
run_checked (inl fault) slots turns = (slots, refused fault.number fault.row fault.byte 0)
run_checked (inr block) slots turns = settle slots turns (exec block slots turns)

module _ (M : Monitor) where
  -- A call, given the labels of its person and of its slot: 10 no such person, 11 no such slot.
  -- A value is laid by a person at or below the slot, else 12, and viewed by a person whom the slot is at or below, else 13.
  abbrev pub lay_as : Option ℕ → Option ℕ → List Slot → ℕ → ℤ → List Slot × Answer
  lay_as None slot slots i v = refuse 10 slots
  lay_as (Some p) None slots i v = refuse 11 slots
  lay_as (Some p) (Some l) slots i v = cond (M.flows p l) (put slots i v, laid) (refuse 12 slots)

  abbrev pub view_as : Option ℕ → Option ℕ → List Slot → ℕ → List Slot × Answer
  view_as None slot slots i = refuse 10 slots
  view_as (Some p) None slots i = refuse 11 slots
  view_as (Some p) (Some l) slots i = cond (M.flows l p) (slots, viewed (value_at slots i)) (refuse 13 slots)

  abbrev pub run_as : Option ℕ → List Slot → List ℕ → ℕ → List Slot × Answer
  run_as None slots sheet turns = refuse 10 slots
  run_as (Some p) slots sheet turns = run_checked (M.check p sheet) slots turns

  -- the slots after a call, and the answer to it
  abbrev pub step : List Slot → Call → List Slot × Answer
  step slots (lay n i v) = lay_as (M.people n) (M.labels i) slots i v
  step slots (view n i) = view_as (M.people n) (M.labels i) slots i
  step slots (run n sheet turns) = run_as (M.people n) slots sheet turns

  abbrev pub answers : List Slot → List Call → List Answer
  answers slots [] = []
  answers slots (call ∷ calls) = (step slots call).1 ∷ answers (step slots call).0 calls

  -- the slots after a list of calls
  abbrev pub final : List Slot → List Call → List Slot
  final slots [] = slots
  final slots (call ∷ calls) = final (step slots call).0 calls

-- Calls are made one by one, each from the slots that the one before it left.
pub record OneByOne (M : Monitor) : Type 0 where
  -- a list of calls can be made in two parts
  pub final_parts : (slots : List Slot) (first more : List Call) → final M slots (first ++ more) ≡ final M (final M slots first) more
  pub answers_parts : (slots : List Slot) (first more : List Call) →
      answers M slots (first ++ more) ≡ answers M slots first ++ answers M (final M slots first) more
  pub one_answer_each : (slots : List Slot) (calls : List Call) → length (answers M slots calls) ≡ length calls
  -- a call that is refused changes nothing, a run that is cut included
  pub refused_keeps : (slots : List Slot) (call : Call) (number row byte count : ℕ) →
      (step M slots call).1 ≡ refused number row byte count → (step M slots call).0 ≡ slots

abbrev pub CallsOneByOne : Type 0
CallsOneByOne = (M : Monitor) → OneByOne M
