-- What speaks against eight bytes, fault by fault, and which fault is given where there are several. Assumes nothing.
use Rattle.std.specs.Prelude.{◌≡◌, ℕ, ◌<◌, ◌≤◌, Bool, true, false, ◌⊎◌, List, Err, ◌≢◌}
use Rattle.rows.specs.Faults.{reason_byte, reason_number}
use Rattle.rows.specs.Kinds.{is_operation, is_slot, is_unused}
use Rattle.rows.specs.Reading.{byte_at, read_row, use_at}
use Rattle.rows.specs.declared.fault.RowFault.{RowFault}
use Rattle.rows.specs.declared.fault.RowReason.{RowReason}
use Rattle.rows.specs.declared.fault.RowReason.TheVariants.{Kind, Operation, NotListed, NotZero}

-- the faults of eight bytes
pub data Against (lists : ℕ → Bool) (bytes : List ℕ) : RowReason → Type 0 where
  kind_above : 7 < byte_at bytes 0 → Against lists bytes Kind
  operation_above : is_operation (use_at bytes 1) ≡ true → 7 < byte_at bytes 1 → Against lists bytes Operation
  slot_not_listed : (k : ℕ) → k < 8 → is_slot (use_at bytes k) ≡ true → lists (byte_at bytes k) ≡ false → Against lists bytes (NotListed k)
  unused_not_zero : (k : ℕ) → k < 8 → is_unused (use_at bytes k) ≡ true → (byte_at bytes k ≢ 0) → Against lists bytes (NotZero k)

-- the first comes before the second in the order of the faults, and of the bytes at one fault; or they are the same
abbrev pub NoLater : RowReason → RowReason → Type 0
NoLater first second =
    (reason_number first < reason_number second)
    ⊎ ((reason_number first ≡ reason_number second) × (reason_byte first ≤ reason_byte second))

-- of all faults of the bytes this is the first
pub record FirstFault (lists : ℕ → Bool) (bytes : List ℕ) (reason : RowReason) : Type 0 where
  pub stands : Against lists bytes reason
  pub earliest : (other : RowReason) → Against lists bytes other → NoLater reason other

-- bytes with a fault are refused, and what is refused is given its own number and its first fault
pub record RowRefusal (lists : ℕ → Bool) (number : ℕ) (bytes : List ℕ) : Type 0 where
  pub faulty : (reason : RowReason) → Against lists bytes reason → (fault : RowFault) × (read_row lists number bytes ≡ Err fault)
  pub given : (fault : RowFault) → read_row lists number bytes ≡ Err fault → (fault.row ≡ number) × FirstFault lists bytes fault.reason

abbrev pub RowsAreRefused : Type 0
RowsAreRefused = (lists : ℕ → Bool) (number : ℕ) (bytes : List ℕ) → RowRefusal lists number bytes
