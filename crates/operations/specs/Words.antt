-- What the operations give, in the words of arithmetic: no more than sums, products, sizes and bits. Assumes nothing.
use Rattle.std.specs.Prelude.{◌≡◌, ℕ, zero, suc, ◌+◌, ◌*◌, ◌/◌, ◌%◌, ◌^◌, ◌≤◌, cond, ◌⊎◌, ℤ, pos, negsuc, ◌+ℤ◌, ◌-ℤ◌, ◌*ℤ◌, neg_ℤ, ◌≤ℤ◌, ◌<ℤ◌, ◌==◌, ◌≢◌, unsigned_abs}
use Rattle.std.specs.Int.{int_rem_euclid}
use Rattle.operations.specs.Operations.{applied}
use Rattle.operations.specs.declared.operation.Operation.{Operation}
use Rattle.operations.specs.declared.operation.Operation.TheVariants.{Sum, Difference, Product, Share, Equal, Less, Differing, Lesser}

abbrev pub least_value : ℤ
least_value = neg_ℤ (pos (2 ^ 31))

-- a value: a whole number from -2^31 to 2^31 - 1
pub record Value (z : ℤ) : Type 0 where
  pub low : least_value ≤ℤ z
  pub high : z <ℤ pos (2 ^ 31)

-- every operation gives a value
abbrev pub GivesValues : Type 0
GivesValues = (op : Operation) (a b : ℤ) → Value a → Value b → Value (applied op a b)

-- r is a value, and differs from z by a multiple of 2^32
pub record BroughtIn (z r : ℤ) : Type 0 where
  pub value : Value r
  pub multiple : (k : ℤ) × (r ≡ z +ℤ k *ℤ pos (2 ^ 32))

pub record Wraps : Type 0 where
  pub sum : (a b : ℤ) → BroughtIn (a +ℤ b) (applied Sum a b)
  pub difference : (a b : ℤ) → BroughtIn (a -ℤ b) (applied Difference a b)
  pub product : (a b : ℤ) → BroughtIn (a *ℤ b) (applied Product a b)

-- how far q times b is from a
abbrev pub miss : ℤ → ℤ → ℤ → ℕ
miss a b q = unsigned_abs (a -ℤ q *ℤ b)

-- q is a whole number nearest to a divided by b, and where two are, it is the one further from zero
pub record Nearest (a b q : ℤ) : Type 0 where
  pub near : 2 * miss a b q ≤ unsigned_abs b
  pub half : 2 * miss a b q ≡ unsigned_abs b → unsigned_abs a ≤ unsigned_abs (q *ℤ b)

pub record Shares : Type 0 where
  pub nearest : (a b : ℤ) → Value a → Value b → (b ≢ pos 0) → (a ≡ least_value → b ≢ negsuc 0) → Nearest a b (applied Share a b)
  pub by_zero : (a : ℤ) → applied Share a (pos 0) ≡ pos 0
  pub out_of_range : applied Share least_value (negsuc 0) ≡ least_value

pub record Compares : Type 0 where
  pub equal : (a b : ℤ) → a ≡ b → applied Equal a b ≡ pos 1
  pub unequal : (a b : ℤ) → (a ≢ b) → applied Equal a b ≡ pos 0
  pub less : (a b : ℤ) → a <ℤ b → applied Less a b ≡ pos 1
  pub not_less : (a b : ℤ) → b ≤ℤ a → applied Less a b ≡ pos 0

-- bit i of z in two's complement
abbrev pub bit : ℤ → ℕ → ℕ
bit z i = unsigned_abs (int_rem_euclid z (pos (2 ^ 32))) / 2 ^ i % 2

-- in how many of the n lowest bits a and b differ
abbrev pub differing : ℕ → ℤ → ℤ → ℕ
differing zero a b = 0
differing (suc i) a b = cond (bit a i == bit b i) 0 1 + differing i a b

abbrev pub CountsBits : Type 0
CountsBits = (a b : ℤ) → Value a → Value b → applied Differing a b ≡ pos (differing 32 a b)

-- r is one of a and b, and neither is less
pub record Least (a b r : ℤ) : Type 0 where
  pub one_of : (r ≡ a) ⊎ (r ≡ b)
  pub first : r ≤ℤ a
  pub second : r ≤ℤ b

abbrev pub GivesLeast : Type 0
GivesLeast = (a b : ℤ) → Least a b (applied Lesser a b)
