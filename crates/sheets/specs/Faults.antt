-- The number of each fault of a sheet, and the row and the byte that it names: 0 where it names none. Assumes nothing.
use Rattle.std.specs.Prelude.{ℕ}
use Rattle.rows.specs.Faults.{reason_number, reason_byte}
use Rattle.sheets.specs.declared.fault.SheetFault.{SheetFault}
use Rattle.sheets.specs.declared.fault.SheetFault.TheVariants.{Length, Row, StillOpen}

abbrev pub fault_number : SheetFault → ℕ
fault_number Length = 20
fault_number (Row fault) = reason_number fault.reason
fault_number (StillOpen row) = 28

abbrev pub fault_row : SheetFault → ℕ
fault_row Length = 0
fault_row (Row fault) = fault.row
fault_row (StillOpen row) = row

abbrev pub fault_byte : SheetFault → ℕ
fault_byte Length = 0
fault_byte (Row fault) = reason_byte fault.reason
fault_byte (StillOpen row) = 0
