-- The laws of a ladder. Assumes nothing.
use Rattle.std.specs.Prelude.{ℕ, ◌≤◌}
use Rattle.std.proofs.Common.{arith}
use Rattle.labels.specs.Laws.{Lawful}
use Rattle.labels.specs.Schemes.{ladder_flows, ladder_joins, ladder_bits}

pub ladder_lawful : (n : ℕ) → 1 ≤ n → n ≤ 256 → Lawful (ladder_flows n) (ladder_joins n) ladder_bits
ladder_lawful n some few = record {
  reflexive = λ a ha. grind arith;
  transitive = λ a b c ha hb hc p q. grind arith;
  join_left = λ a b ha hb. grind arith;
  join_right = λ a b ha hb. grind arith;
  join_least = λ a b c ha hb hc p q. grind arith;
  bottom = λ a ha. grind arith;
  some_bits = omega arith;
  few_bits = omega arith;
  join_fits = λ a b ha hb. grind arith;
}
