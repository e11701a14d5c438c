-- What running a block does to the slots, and how many turns it takes. Assumes nothing.
use Rattle.std.specs.Prelude.{ℕ, zero, suc, Bool, true, false, cond, List, ℤ, pos, negsuc}
use Rattle.operations.specs.Operations.{applied}
use Rattle.table.specs.declared.table.Slot.{Slot}
use Rattle.table.specs.Slots.{value_at, put}
use Rattle.sheets.specs.Programs.{Expression, constant, with_constant, two_slots, Simple, skip, assign, Block, nil, simple, when, either, while}

-- a run comes to its end with these slots and so many turns left, or it is cut
pub data Outcome : Type 0 where
  done : (slots : List Slot) (left : ℕ) → Outcome
  cut : Outcome

abbrev pub value_of : Expression → List Slot → ℤ
value_of (constant k) slots = k
value_of (with_constant op first k) slots = applied op (value_at slots first) k
value_of (two_slots op first second) slots = applied op (value_at slots first) (value_at slots second)

abbrev pub do_simple : Simple → List Slot → List Slot
do_simple skip slots = slots
do_simple (assign i e) slots = put slots i (value_of e slots)

abbrev pub is_nonzero : ℤ → Bool
is_nonzero (pos zero) = false
is_nonzero (pos (suc n)) = true
is_nonzero (negsuc n) = true

-- a guard holds when its slot's value is not 0
abbrev pub holds : ℕ → List Slot → Bool
holds g slots = is_nonzero (value_at slots g)

-- go on where a run came to its end
abbrev pub and_then : Outcome → (List Slot → ℕ → Outcome) → Outcome
and_then (done slots t) go = go slots t
and_then cut go = cut

-- go on with one turn less, if there is one
abbrev pub take_turn : ℕ → (ℕ → Outcome) → Outcome
take_turn zero go = cut
take_turn (suc t) go = go t

-- Look at the guard: if it does not hold pass on, otherwise take a turn, run the body and look again.
-- The first number only bounds the recursion. Each round takes a turn, so a bound of t is enough for t turns.
abbrev pub rounds : ℕ → ℕ → (List Slot → ℕ → Outcome) → List Slot → ℕ → Outcome
rounds zero g body slots t = cond (holds g slots) cut (done slots t)
rounds (suc bound) g body slots t = cond (holds g slots) (take_turn t (λ left. and_then (body slots left) (rounds bound g body))) (done slots t)

-- what a block does, from these slots and with so many turns
abbrev pub exec : Block → List Slot → ℕ → Outcome
exec nil slots t = done slots t
exec (simple s rest) slots t = exec rest (do_simple s slots) t
exec (when g a rest) slots t = and_then (cond (holds g slots) (exec a slots t) (done slots t)) (exec rest)
exec (either g a b rest) slots t = and_then (cond (holds g slots) (exec a slots t) (exec b slots t)) (exec rest)
exec (while g a rest) slots t = and_then (rounds t g (exec a) slots t) (exec rest)
