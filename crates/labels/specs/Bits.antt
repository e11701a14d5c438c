-- A number's bits, counted from 0, the lowest; and the order and the join of codes of which only some bits count. Assumes nothing.
use Rattle.std.specs.Prelude.{ℕ, zero, suc, ◌+◌, ◌/◌, ◌%◌, ◌^◌, Bool, true, cond, not, ◌&&◌, ◌||◌, ◌==◌}

-- bit i of a is set
unfoldable pub bit : ℕ → ℕ → Bool
bit i a = a / 2 ^ i % 2 == 1

-- p holds of every number below n
unfoldable pub every : ℕ → (ℕ → Bool) → Bool
every zero p = true
every (suc n) p = p n && every n p

-- the number below 2^n whose bit i is set where p holds of i: the sum of those powers of two
unfoldable pub bits_where : ℕ → (ℕ → Bool) → ℕ
bits_where zero p = 0
bits_where (suc n) p = cond (p n) (2 ^ n) 0 + bits_where n p

-- Of the bits below n, bit i counts where `counts i` holds; from n up none counts.

-- every bit that counts and is set in a is set in b
unfoldable pub included : ℕ → (ℕ → Bool) → ℕ → ℕ → Bool
included n counts a b = every n (λ i. not (counts i && bit i a) || bit i b)

-- the bits that count and are set in a or in b
unfoldable pub united : ℕ → (ℕ → Bool) → ℕ → ℕ → ℕ
united n counts a b = bits_where n (λ i. counts i && (bit i a || bit i b))
