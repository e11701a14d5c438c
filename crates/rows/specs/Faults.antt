-- The number of each fault of a row, and the byte that it names: 0 where it names none. Assumes nothing.
use Rattle.std.specs.Prelude.{ℕ}
use Rattle.rows.specs.declared.fault.RowReason.{RowReason}
use Rattle.rows.specs.declared.fault.RowReason.TheVariants.{Kind, Operation, NotListed, NotZero, ElseOutOfPlace, EndOutOfPlace, TooDeep, SetNotPassed, WhileNotPassed}

abbrev pub reason_number : RowReason → ℕ
reason_number Kind = 21
reason_number Operation = 22
reason_number (NotListed byte) = 23
reason_number (NotZero byte) = 24
reason_number ElseOutOfPlace = 25
reason_number EndOutOfPlace = 26
reason_number TooDeep = 27
reason_number SetNotPassed = 31
reason_number WhileNotPassed = 32

abbrev pub reason_byte : RowReason → ℕ
reason_byte Kind = 0
reason_byte Operation = 1
reason_byte (NotListed byte) = byte
reason_byte (NotZero byte) = byte
reason_byte ElseOutOfPlace = 0
reason_byte EndOutOfPlace = 0
reason_byte TooDeep = 0
reason_byte SetNotPassed = 0
reason_byte WhileNotPassed = 0
