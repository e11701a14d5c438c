-- Label codes, and the laws of a label scheme. Assumes nothing.
use Rattle.std.specs.Prelude.{◌≡◌, ℕ, ◌^◌, ◌<◌, ◌≤◌, Bool, true}

-- a label is written as a code: a whole number below 2^64
abbrev pub Code : ℕ → Type 0
Code a = a < 2 ^ 64

-- A scheme is an order, `flows a b` (a is at or below b), a join and a width in bits. The laws speak of codes and of no other numbers.
-- Two codes of which each is at or below the other mean the same. They need not be equal.
pub record Lawful (flows : ℕ → ℕ → Bool) (joins : ℕ → ℕ → ℕ) (bits : ℕ) : Type 0 where
  pub reflexive : (a : ℕ) → Code a → flows a a ≡ true
  pub transitive : (a b c : ℕ) → Code a → Code b → Code c → flows a b ≡ true → flows b c ≡ true → flows a c ≡ true
  pub join_left : (a b : ℕ) → Code a → Code b → flows a (joins a b) ≡ true
  pub join_right : (a b : ℕ) → Code a → Code b → flows b (joins a b) ≡ true
  pub join_least : (a b c : ℕ) → Code a → Code b → Code c → flows a c ≡ true → flows b c ≡ true → flows (joins a b) c ≡ true
  pub bottom : (a : ℕ) → Code a → flows 0 a ≡ true
  pub some_bits : 1 ≤ bits
  pub few_bits : bits ≤ 64
  pub join_fits : (a b : ℕ) → Code a → Code b → joins a b < 2 ^ bits
