-- How eight bytes are read as a row: what speaks against them, in the order of the faults, and the row that they stand for.
-- Assumes nothing.
use Rattle.std.specs.Prelude.{ℕ, ◌+◌, ◌*◌, ◌^◌, Bool, cond, not, ◌&&◌, List, [], ◌∷◌, ◌++◌, map, ℤ, Some, None, Ok, Err, filter, Option, Result, ◌==◌, nat_lt, slice_index, slice_index_or}
use Rattle.std.specs.Int.{w32}
use Rattle.std.proofs.Common.{to_z}
use Rattle.std.specs.Option.{unwrap_or}
use Rattle.operations.specs.Operations.{numbered}
use Rattle.operations.specs.declared.operation.Operation.{Operation as Op}
use Rattle.operations.specs.declared.operation.Operation.TheVariants.{Sum}
use Rattle.rows.specs.Kinds.{uses, is_operation, is_slot, is_unused}
use Rattle.rows.specs.declared.kind.Use.{Use}
use Rattle.rows.specs.declared.fault.RowFault.{RowFault}
use Rattle.rows.specs.declared.fault.RowReason.{RowReason}
use Rattle.rows.specs.declared.fault.RowReason.TheVariants.{Kind, Operation, NotListed, NotZero}
use Rattle.rows.specs.declared.row.Row.{Row}
use Rattle.rows.specs.declared.row.Row.TheVariants.{Idle, PutConstant, SlotWithConstant, TwoSlots, If, Else, While, End}

-- byte k of a row
abbrev pub byte_at : List ℕ → ℕ → ℕ
byte_at bytes k = slice_index bytes k

-- what byte k is to the kind, which byte 0 gives
abbrev pub use_at : List ℕ → ℕ → Use
use_at bytes k = uses (byte_at bytes 0) k

-- the kind is none of the eight
abbrev pub no_kind : List ℕ → Bool
no_kind bytes = nat_lt 7 (byte_at bytes 0)

-- byte 1 is used as an operation and is none of the eight
abbrev pub no_operation : List ℕ → Bool
no_operation bytes = is_operation (use_at bytes 1) && nat_lt 7 (byte_at bytes 1)

-- byte k is used as a slot, and that slot is not listed
abbrev pub not_listed : (ℕ → Bool) → List ℕ → ℕ → Bool
not_listed lists bytes k = is_slot (use_at bytes k) && not (lists (byte_at bytes k))

-- byte k is not used and not 0
abbrev pub not_zero : List ℕ → ℕ → Bool
not_zero bytes k = is_unused (use_at bytes k) && not (byte_at bytes k == 0)

-- the bytes of a row, by number, of which a test is true
abbrev pub bytes_where : (ℕ → Bool) → List ℕ
bytes_where test = filter test (0 ∷ 1 ∷ 2 ∷ 3 ∷ 4 ∷ 5 ∷ 6 ∷ 7 ∷ [])

abbrev pub kind_complaints : List ℕ → List RowReason
kind_complaints bytes = cond (no_kind bytes) (Kind ∷ []) []

abbrev pub operation_complaints : List ℕ → List RowReason
operation_complaints bytes = cond (no_operation bytes) (Operation ∷ []) []

abbrev pub slot_complaints : (ℕ → Bool) → List ℕ → List RowReason
slot_complaints lists bytes = map NotListed (bytes_where (not_listed lists bytes))

abbrev pub rest_complaints : List ℕ → List RowReason
rest_complaints bytes = map NotZero (bytes_where (not_zero bytes))

-- all that speaks against the eight bytes, in order
abbrev pub complaints : (ℕ → Bool) → List ℕ → List RowReason
complaints lists bytes = kind_complaints bytes ++ operation_complaints bytes ++ slot_complaints lists bytes ++ rest_complaints bytes

abbrev pub first : List RowReason → Option RowReason
first [] = None
first (reason ∷ others) = Some reason

-- bytes 4 to 7 as a signed number of 32 bits, highest byte first
abbrev pub constant_at : List ℕ → ℤ
constant_at bytes = to_z w32 (byte_at bytes 4 * 2 ^ 24 + byte_at bytes 5 * 2 ^ 16 + byte_at bytes 6 * 2 ^ 8 + byte_at bytes 7)

-- the operation that byte 1 gives
abbrev pub operation_at : List ℕ → Op
operation_at bytes = unwrap_or (numbered (byte_at bytes 1)) Sum

-- the row of each kind, as the bytes give its parts: 2 the target, 3 the first slot or the guard, 7 the second slot
abbrev pub rows_from : List ℕ → List Row
rows_from bytes =
    Idle
    ∷ PutConstant (byte_at bytes 2) (constant_at bytes)
    ∷ SlotWithConstant (operation_at bytes) (byte_at bytes 2) (byte_at bytes 3) (constant_at bytes)
    ∷ TwoSlots (operation_at bytes) (byte_at bytes 2) (byte_at bytes 3) (byte_at bytes 7)
    ∷ If (byte_at bytes 3)
    ∷ Else
    ∷ While (byte_at bytes 3)
    ∷ End
    ∷ []

-- the row that eight bytes stand for, if nothing speaks against them
abbrev pub row_from : List ℕ → Row
row_from bytes = slice_index_or (rows_from bytes) (byte_at bytes 0) Idle

-- the first complaint refuses the row
abbrev pub answered : ℕ → Row → Option RowReason → Result Row RowFault
answered number row None = Ok row
answered number row (Some reason) = Err (record { row = number; reason = reason })

-- what a row is read as, given which slots are listed, its number and its eight bytes
abbrev pub read_row : (ℕ → Bool) → ℕ → List ℕ → Result Row RowFault
read_row lists number bytes = answered number (row_from bytes) (first (complaints lists bytes))
