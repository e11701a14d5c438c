use Rattle.std.proofs.Common.{refl}
use Rattle.judging.proofs.theorems.examples_stand.Goals as goal

pub returns : goal.returns
returns c = record {
  upwards = refl;
  downwards = refl;
  second_read = refl;
  runner_counts = refl;
  in_branch = refl;
  in_second_branch = refl;
  after_branch = refl;
  in_loop = refl;
  loop_above_runner = refl;
  loop_at_runner = refl;
}
