use Rattle.std.proofs.Common.{◌≡◌, ℕ, zero, suc, List, ◌++◌, ℤ, pos, refl, ap}
use native.Mathlib.Nat.{sub_self}
use lib.Count.{ones-ones}
use Rattle.std.specs.Int.{int_wrap}
use Rattle.labels.specs.Bits.{bit, every, bits_where, included, united}
use Rattle.operations.specs.Operations.{applied}
use Rattle.operations.specs.declared.operation.Operation.TheVariants.{Sum}
use Rattle.roster.specs.Reading.{read_from}
use Rattle.table.specs.declared.table.Slot.{Slot}
use Rattle.noninterference.specs.Monitor.{Answer, ran}
use Rattle.cases.specs.Cases.{slots, run_by, while_1, end}
use Rattle.cases.proofs.cases_hold.Goals as goal

-- the slots after a run that took no turn
unturned : List Slot → ℕ → List Slot × Answer
unturned s n = (s, ran n)

-- a loop whose guard does not hold looks at it once, whatever the turns
passes : (turns : ℕ) (v : ℤ) → ◌≡◌ {A = List Slot × Answer} (run_by 1 (while_1 ++ end) turns v (pos 0)) (slots v (pos 0), ran 0)
unfolding unturned
passes zero v = refl
passes (suc t) v = ap (unturned (slots v (pos 0))) (sub_self (suc t))

-- the definitions compute
pub returns : goal.returns
unfolding bit every bits_where included united int_wrap unturned read_from
returns c = record {
  rostered = refl;
  shares = (refl, refl, refl, refl);
  differs = ap pos (ones-ones 32);
  copies_down = λ turns v w. refl;
  copies_up = λ turns v w. ap (unturned (slots v (applied Sum v (pos 7)))) (sub_self turns);
  writes_down = λ turns v w. refl;
  first_branch = λ turns v w. refl;
  second_branch = λ turns v w. refl;
  loops_above = λ turns v w. refl;
  loop_checked = (refl, refl);
  loop_passes = passes;
  enough_turns = λ v w. refl;
  too_few_turns = λ v w. refl;
  pair = (refl, refl);
  house = (refl, refl);
  ladder = refl;
}
