-- Small blocks and what stands against them, under codes in their usual order: slot 0 has the label 0 and slot 1 the label 5. Assumes nothing.
use Rattle.std.specs.Prelude.{◌≡◌, ℕ, zero, suc, max, pos, Some, None, Option, nat_le}
use Rattle.operations.specs.declared.operation.Operation.TheVariants.{Sum}
use Rattle.rows.specs.declared.fault.RowFault.{RowFault}
use Rattle.rows.specs.declared.fault.RowReason.{RowReason}
use Rattle.rows.specs.declared.fault.RowReason.TheVariants.{SetNotPassed, WhileNotPassed}
use Rattle.sheets.specs.Programs.{constant, with_constant, two_slots, assign, Block, nil, simple, when, either, while}
use Rattle.judging.specs.Judging.{judged}

abbrev two_slots_listed : ℕ → Option ℕ
two_slots_listed zero = Some 0
two_slots_listed (suc zero) = Some 5
two_slots_listed (suc (suc i)) = None

-- what stands against a block that a person with the label p wants to run
abbrev against : ℕ → Block → Option RowFault
against p b = judged nat_le max two_slots_listed p b

abbrev at_row : ℕ → RowReason → Option RowFault
at_row i why = Some (record { row = i; reason = why })

-- slot 0 gets a constant, and then comes the rest
abbrev low : Block → Block
low rest = simple (assign 0 (constant (pos 1))) rest

pub record Examples : Type 0 where
  pub upwards : against 0 (simple (assign 1 (with_constant Sum 0 (pos 1))) nil) ≡ None
  pub downwards : against 0 (simple (assign 0 (with_constant Sum 1 (pos 1))) nil) ≡ at_row 0 SetNotPassed
  -- the second slot that is read counts as the first does
  pub second_read : against 0 (simple (assign 0 (two_slots Sum 0 1)) nil) ≡ at_row 0 SetNotPassed
  -- the control label starts as the runner's
  pub runner_counts : against 5 (low nil) ≡ at_row 0 SetNotPassed
  -- what is done in a branch tells its guard, in the second branch too, and no longer after the end
  pub in_branch : against 0 (when 1 (low nil) nil) ≡ at_row 1 SetNotPassed
  pub in_second_branch : against 0 (either 1 nil (low nil) nil) ≡ at_row 2 SetNotPassed
  pub after_branch : against 0 (when 1 nil (low nil)) ≡ None
  -- the runner learns how many turns a loop takes, were it empty
  pub in_loop : against 5 (while 1 (low nil) nil) ≡ at_row 1 SetNotPassed
  pub loop_above_runner : against 0 (while 1 nil nil) ≡ at_row 0 WhileNotPassed
  pub loop_at_runner : against 5 (while 1 nil nil) ≡ None
