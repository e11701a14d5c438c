-- How a row is written in eight bytes, and what reading has to do with it. Assumes nothing.
use Rattle.std.specs.Prelude.{◌≡◌, ℕ, ◌/◌, ◌%◌, ◌^◌, ◌<◌, Bool, true, List, [], ◌∷◌, length, ℤ, Ok}
use Rattle.std.specs.Int.{w32}
use Rattle.std.proofs.Common.{of_z}
use Rattle.std.specs.List.{AllByRecursion}
use Rattle.operations.specs.Words.{Value}
use Rattle.operations.specs.declared.operation.Operation.{Operation}
use Rattle.operations.specs.declared.operation.Operation.TheVariants.{Sum, Difference, Product, Share, Equal, Less, Differing, Lesser}
use Rattle.rows.specs.Reading.{read_row}
use Rattle.rows.specs.declared.row.Row.{Row}
use Rattle.rows.specs.declared.row.Row.TheVariants.{Idle, PutConstant, SlotWithConstant, TwoSlots, If, Else, While, End}

abbrev pub operation_number : Operation → ℕ
operation_number Sum = 0
operation_number Difference = 1
operation_number Product = 2
operation_number Share = 3
operation_number Equal = 4
operation_number Less = 5
operation_number Differing = 6
operation_number Lesser = 7

-- the four bytes of a number below 2^32, highest first
abbrev pub four_bytes : ℕ → List ℕ
four_bytes n = n / 2 ^ 24 ∷ n / 2 ^ 16 % 256 ∷ n / 2 ^ 8 % 256 ∷ n % 256 ∷ []

-- a constant is written as itself, or with 2^32 added to it if it is negative
abbrev pub constant_bytes : ℤ → List ℕ
constant_bytes constant = four_bytes (of_z w32 constant)

-- the eight bytes that write a row
abbrev pub bytes_of : Row → List ℕ
bytes_of Idle = 0 ∷ 0 ∷ 0 ∷ 0 ∷ 0 ∷ 0 ∷ 0 ∷ 0 ∷ []
bytes_of (PutConstant target constant) = 1 ∷ 0 ∷ target ∷ 0 ∷ constant_bytes constant
bytes_of (SlotWithConstant operation target first constant) = 2 ∷ operation_number operation ∷ target ∷ first ∷ constant_bytes constant
bytes_of (TwoSlots operation target first second) = 3 ∷ operation_number operation ∷ target ∷ first ∷ 0 ∷ 0 ∷ 0 ∷ second ∷ []
bytes_of (If guard) = 4 ∷ 0 ∷ 0 ∷ guard ∷ 0 ∷ 0 ∷ 0 ∷ 0 ∷ []
bytes_of Else = 5 ∷ 0 ∷ 0 ∷ 0 ∷ 0 ∷ 0 ∷ 0 ∷ 0 ∷ []
bytes_of (While guard) = 6 ∷ 0 ∷ 0 ∷ guard ∷ 0 ∷ 0 ∷ 0 ∷ 0 ∷ []
bytes_of End = 7 ∷ 0 ∷ 0 ∷ 0 ∷ 0 ∷ 0 ∷ 0 ∷ 0 ∷ []

-- the slots that a row names
abbrev pub slots_of : Row → List ℕ
slots_of Idle = []
slots_of (PutConstant target constant) = target ∷ []
slots_of (SlotWithConstant operation target first constant) = target ∷ first ∷ []
slots_of (TwoSlots operation target first second) = target ∷ first ∷ second ∷ []
slots_of (If guard) = guard ∷ []
slots_of Else = []
slots_of (While guard) = guard ∷ []
slots_of End = []

-- the constants that stand in a row
abbrev pub constants_of : Row → List ℤ
constants_of Idle = []
constants_of (PutConstant target constant) = constant ∷ []
constants_of (SlotWithConstant operation target first constant) = constant ∷ []
constants_of (TwoSlots operation target first second) = []
constants_of (If guard) = []
constants_of Else = []
constants_of (While guard) = []
constants_of End = []

-- the bytes write the row, each slot that it names is listed, and its constant is a value
pub record Writes (lists : ℕ → Bool) (bytes : List ℕ) (row : Row) : Type 0 where
  pub written : bytes ≡ bytes_of row
  pub listed_slots : AllByRecursion (λ slot. lists slot ≡ true) (slots_of row)
  pub values : AllByRecursion Value (constants_of row)

-- eight bytes are read as a row exactly if they write it
pub record RowReading (lists : ℕ → Bool) (number : ℕ) (bytes : List ℕ) (row : Row) : Type 0 where
  pub only_written : read_row lists number bytes ≡ Ok row → Writes lists bytes row
  pub all_written : Writes lists bytes row → read_row lists number bytes ≡ Ok row

abbrev pub RowsAreRead : Type 0
RowsAreRead =
    (lists : ℕ → Bool) (number : ℕ) (bytes : List ℕ) (row : Row) →
    length bytes ≡ 8 → AllByRecursion (λ byte. byte < 256) bytes → RowReading lists number bytes row
