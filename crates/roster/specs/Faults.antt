-- The number, the line and the byte that each fault is told by: 0 where it names none. Assumes nothing.
use Rattle.std.specs.Prelude.{ℕ}
use Rattle.roster.specs.declared.fault.RosterFault.{RosterFault}
use Rattle.roster.specs.declared.fault.RosterFault.TheVariants.{TooLong, Line}
use Rattle.roster.specs.declared.fault.LineReason.{LineReason}
use Rattle.roster.specs.declared.fault.LineReason.TheVariants.{Form, Number, ListedBefore, Label}

abbrev pub line_reason_number : LineReason → ℕ
line_reason_number (Form k) = 2
line_reason_number Number = 3
line_reason_number ListedBefore = 4
line_reason_number Label = 5

abbrev pub line_reason_byte : LineReason → ℕ
line_reason_byte (Form k) = k
line_reason_byte Number = 0
line_reason_byte ListedBefore = 0
line_reason_byte Label = 0

abbrev pub roster_fault_number : RosterFault → ℕ
roster_fault_number TooLong = 1
roster_fault_number (Line i reason) = line_reason_number reason

abbrev pub roster_fault_line : RosterFault → ℕ
roster_fault_line TooLong = 0
roster_fault_line (Line i reason) = i

abbrev pub roster_fault_byte : RosterFault → ℕ
roster_fault_byte TooLong = 0
roster_fault_byte (Line i reason) = line_reason_byte reason
