-- The five schemes in their own words: topics and houses bit by bit, a ladder by its top level, a pair by the parts of a code, a cap by what is at or below it. Assumes nothing.
use Rattle.std.specs.Prelude.{◌≡◌, ℕ, ◌+◌, ◌-◌, ◌*◌, ◌/◌, ◌%◌, ◌^◌, ◌<◌, ◌≤◌, min, max, Bool, true, false, ◌⊎◌, ◌↔◌, ◌≢◌}
use Rattle.labels.specs.Laws.{Code, Lawful}
use Rattle.labels.specs.Schemes.{ladder_flows, ladder_joins, topics_flows, topics_joins, house_flows, house_joins, house_bits, pair_flows, pair_joins, pair_bits, cap_flows, cap_joins}

-- bit i of a is set
abbrev pub Set : ℕ → ℕ → Type 0
Set i a = a / 2 ^ i % 2 ≡ 1

pub record TopicsBitwise : Type 0 where
  -- a is at or below b exactly when every bit that counts and is set in a is set in b
  pub order : (n a b : ℕ) → (topics_flows n a b ≡ true) ↔ ((i : ℕ) → i < n → Set i a → Set i b)
  -- a bit of the join is set exactly when it counts and is set in a or in b
  pub join : (n a b i : ℕ) → Set i (topics_joins n a b) ↔ ((i < n) × (Set i a ⊎ Set i b))

-- by the label a of a house of k, owner o bars reader r
abbrev pub Bars : ℕ → ℕ → ℕ → ℕ → Type 0
Bars k o r a = Set (o * k + r) a

pub record HouseBitwise : Type 0 where
  -- a is at or below b exactly when whomever an owner bars by a, himself apart, he bars by b
  pub order : (k a b : ℕ) → (house_flows k a b ≡ true) ↔ ((o r : ℕ) → o < k → r < k → (o ≢ r) → Bars k o r a → Bars k o r b)
  -- by the join an owner bars exactly those, himself apart, whom he bars by a or by b
  pub join : (k a b o r : ℕ) → o < k → r < k → Bars k o r (house_joins k a b) ↔ ((o ≢ r) × (Bars k o r a ⊎ Bars k o r b))
  -- and a join has no other bit
  pub beyond : (k a b i : ℕ) → house_bits k ≤ i → Set i (house_joins k a b) → ⊥

pub record LadderInWords : Type 0 where
  -- a is at or below b exactly when it is at most b or b is at least the top level, n - 1
  pub order : (n a b : ℕ) → (ladder_flows n a b ≡ true) ↔ ((a ≤ b) ⊎ (n ≤ b + 1))
  -- the join is the larger of the two, but no more than the top level
  pub join : (n a b : ℕ) → ladder_joins n a b ≡ min (max a b) (n - 1)

-- the pair of a low scheme of v bits and a high scheme of w bits
pub record PairInWords : Type 0 where
  -- every code is the code of a low part below 2^v and a high part
  pub parts : (v a : ℕ) → (s : ℕ) × (x : ℕ) × (x < 2 ^ v) × (a ≡ s * 2 ^ v + x)
  -- if the widths add up to at most 64, one code is at or below another exactly when each part is
  pub order : (low high : ℕ → ℕ → Bool) (v w s x t y : ℕ) → v + w ≤ 64 → x < 2 ^ v → y < 2 ^ v → (pair_flows low v high w (s * 2 ^ v + x) (t * 2 ^ v + y) ≡ true) ↔ ((low x y ≡ true) × (high s t ≡ true))
  -- their join is the code of the joins of the parts
  pub join : (low high : ℕ → ℕ → ℕ) (v w s x t y : ℕ) → v + w ≤ 64 → x < 2 ^ v → y < 2 ^ v → pair_joins low v high w (s * 2 ^ v + x) (t * 2 ^ v + y) ≡ high s t * 2 ^ v + low x y
  -- and the width is the sum
  pub width : (v w : ℕ) → v + w ≤ 64 → pair_bits v w ≡ v + w
  -- if they add up to more, any code is at or below any other, every join is 0 and the width is 1
  pub order_too_wide : (low high : ℕ → ℕ → Bool) (v w a b : ℕ) → 64 < v + w → pair_flows low v high w a b ≡ true
  pub join_too_wide : (low high : ℕ → ℕ → ℕ) (v w a b : ℕ) → 64 < v + w → pair_joins low v high w a b ≡ 0
  pub width_too_wide : (v w : ℕ) → 64 < v + w → pair_bits v w ≡ 1

-- the cap of a scheme by the code c
pub record CappedAt (flows : ℕ → ℕ → Bool) (joins : ℕ → ℕ → ℕ) (c : ℕ) : Type 0 where
  -- everything is at or below c
  pub top : (a : ℕ) → cap_flows flows c a c ≡ true
  -- what is at or below c in the scheme is ordered and joined as there
  pub order_below : (a b : ℕ) → flows a c ≡ true → flows b c ≡ true → cap_flows flows c a b ≡ flows a b
  pub join_below : (a b : ℕ) → flows a c ≡ true → flows b c ≡ true → cap_joins flows joins c a b ≡ joins a b
  -- and what is not means the same as c
  pub beyond : (a : ℕ) → flows a c ≡ false → (cap_flows flows c a c ≡ true) × (cap_flows flows c c a ≡ true)

-- so it is for every lawful scheme and every code c
abbrev pub CapInWords : Type 0
CapInWords = (flows : ℕ → ℕ → Bool) (joins : ℕ → ℕ → ℕ) (bits : ℕ) → Lawful flows joins bits → (c : ℕ) → Code c → CappedAt flows joins c
