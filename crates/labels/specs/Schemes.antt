-- The five schemes: for each an order (`flows a b`: a is at or below b), a join and a width in bits. Assumes nothing.
use Rattle.std.specs.Prelude.{ℕ, ◌+◌, ◌-◌, ◌*◌, ◌/◌, ◌%◌, ◌^◌, min, max, Bool, true, cond, not, ◌&&◌, ◌==◌, nat_le}
use Rattle.labels.specs.Bits.{included, united}

-- ---- Ladder of n levels: a code counts as the smaller of itself and n - 1, and these numbers are compared

abbrev pub level : ℕ → ℕ → ℕ
level n a = min a (n - 1)

abbrev pub ladder_flows : ℕ → ℕ → ℕ → Bool
ladder_flows n a b = nat_le (level n a) (level n b)

abbrev pub ladder_joins : ℕ → ℕ → ℕ → ℕ
ladder_joins n a b = max (level n a) (level n b)

abbrev pub ladder_bits : ℕ
ladder_bits = 8

-- ---- Topics, n of them: the lowest n bits count, bit i saying that topic i is in the label

abbrev pub any_topic : ℕ → Bool
any_topic i = true

abbrev pub topics_flows : ℕ → ℕ → ℕ → Bool
topics_flows n = included n any_topic

abbrev pub topics_joins : ℕ → ℕ → ℕ → ℕ
topics_joins n = united n any_topic

-- ---- House of k principals: bit o * k + r says that owner o bars reader r. Below k * k a bit counts unless its reader is its owner

abbrev pub bars_another : ℕ → ℕ → Bool
bars_another k i = not (i % k == i / k)

abbrev pub house_bits : ℕ → ℕ
house_bits k = k * k

abbrev pub house_flows : ℕ → ℕ → ℕ → Bool
house_flows k = included (house_bits k) (bars_another k)

abbrev pub house_joins : ℕ → ℕ → ℕ → ℕ
house_joins k = united (house_bits k) (bars_another k)

-- ---- Pair of a low scheme of v bits and a high scheme of w bits

abbrev pub low_part : ℕ → ℕ → ℕ
low_part v a = a % 2 ^ v

abbrev pub high_part : ℕ → ℕ → ℕ
high_part v a = a / 2 ^ v

-- the code of two parts
abbrev pub rejoined : ℕ → ℕ → ℕ → ℕ
rejoined v low high = high * 2 ^ v + low

abbrev pub both_fit : ℕ → ℕ → Bool
both_fit v w = nat_le (v + w) 64

-- both parts must hold; but where the widths add up to more than 64, all codes mean the same, every join is 0 and the width is 1
abbrev pub pair_flows : (ℕ → ℕ → Bool) → ℕ → (ℕ → ℕ → Bool) → ℕ → ℕ → ℕ → Bool
pair_flows low v high w a b = cond (both_fit v w) (low (low_part v a) (low_part v b) && high (high_part v a) (high_part v b)) true

abbrev pub pair_joins : (ℕ → ℕ → ℕ) → ℕ → (ℕ → ℕ → ℕ) → ℕ → ℕ → ℕ → ℕ
pair_joins low v high w a b = cond (both_fit v w) (rejoined v (low (low_part v a) (low_part v b)) (high (high_part v a) (high_part v b))) 0

abbrev pub pair_bits : ℕ → ℕ → ℕ
pair_bits v w = cond (both_fit v w) (v + w) 1

-- ---- Cap of a scheme by a code c: a code counts as itself if it is at or below c, otherwise as c; the width is the scheme's

abbrev pub capped : (ℕ → ℕ → Bool) → ℕ → ℕ → ℕ
capped flows c a = cond (flows a c) a c

abbrev pub cap_flows : (ℕ → ℕ → Bool) → ℕ → ℕ → ℕ → Bool
cap_flows flows c a b = flows (capped flows c a) (capped flows c b)

abbrev pub cap_joins : (ℕ → ℕ → Bool) → (ℕ → ℕ → ℕ) → ℕ → ℕ → ℕ → ℕ
cap_joins flows joins c a b = joins (capped flows c a) (capped flows c b)
