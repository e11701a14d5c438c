-- What each of the eight operations gives, and how they are numbered. Values are whole numbers from -2^31 to 2^31 - 1;
-- `int_wrap w32 z` is the value that differs from z by a multiple of 2^32. Assumes nothing.
use Rattle.std.specs.Prelude.{◌≡◌, ℕ, ◌+◌, ◌*◌, ◌/◌, Bool, false, cond, List, [], ◌∷◌, map, ℤ, pos, negsuc, ◌+ℤ◌, ◌-ℤ◌, ◌*ℤ◌, neg_ℤ, Some, None, Option, Result, ok_or, ◌==◌, bit_xor, count_ones, int_lt, slice_index_or, unsigned_abs}
use Rattle.std.proofs.Common.{of_z}
use Rattle.std.specs.Int.{int_min, int_wrap, w32}
use Rattle.operations.specs.declared.operation.Operation.{Operation}
use Rattle.operations.specs.declared.operation.UnknownOperation.{UnknownOperation}
use Rattle.operations.specs.declared.operation.Operation.TheVariants.{Sum, Difference, Product, Share, Equal, Less, Differing, Lesser}

-- the operations in the order of their numbers, from 0
abbrev pub in_order : List Operation
in_order = Sum ∷ Difference ∷ Product ∷ Share ∷ Equal ∷ Less ∷ Differing ∷ Lesser ∷ []

-- the operation with this number, if there is one
abbrev pub numbered : ℕ → Option Operation
numbered n = slice_index_or (map Some in_order) n None

-- a number is converted to the operation that has it; where none has it, the error names it
abbrev pub Numbered : ℕ → Result Operation UnknownOperation → Type 0
Numbered n converted = converted ≡ ok_or (numbered n) (record { 0 = n })

abbrev pub equal : ℤ → ℤ → Bool
equal (pos a) (pos b) = a == b
equal (pos a) (negsuc b) = false
equal (negsuc a) (pos b) = false
equal (negsuc a) (negsuc b) = a == b

-- 1 for yes and 0 for no
abbrev pub answer : Bool → ℤ
answer yes? = cond yes? (pos 1) (pos 0)

-- a divided by b, not 0, to the nearest whole number, an exact half upward
abbrev pub nearest : ℕ → ℕ → ℕ
nearest a b = (2 * a + b) / (2 * b)

-- n with the sign of a quotient of a by b
abbrev pub with_signs : ℤ → ℤ → ℕ → ℤ
with_signs (pos a) (pos b) n = pos n
with_signs (pos a) (negsuc b) n = neg_ℤ (pos n)
with_signs (negsuc a) (pos b) n = neg_ℤ (pos n)
with_signs (negsuc a) (negsuc b) n = pos n

-- a divided by b to the nearest whole number, an exact half away from zero; 0 if b is 0
abbrev pub shared : ℤ → ℤ → ℤ
shared a b = cond (equal b (pos 0)) (pos 0) (int_wrap w32 (with_signs a b (nearest (unsigned_abs a) (unsigned_abs b))))

-- what the operation gives of a first and a second value
abbrev pub applied : Operation → ℤ → ℤ → ℤ
applied Sum a b = int_wrap w32 (a +ℤ b)
applied Difference a b = int_wrap w32 (a -ℤ b)
applied Product a b = int_wrap w32 (a *ℤ b)
applied Share a b = shared a b
applied Equal a b = answer (equal a b)
applied Less a b = answer (int_lt a b)
applied Differing a b = pos (count_ones (bit_xor (of_z w32 a) (of_z w32 b)))
applied Lesser a b = int_min a b
