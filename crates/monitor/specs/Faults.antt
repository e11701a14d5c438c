-- The number by which each refusal is told, and the row, the byte and the count that it names: 0 where it names none. Of a roster the row is a line.
-- Assumes nothing.
use Rattle.std.specs.Prelude.{ℕ}
use Rattle.roster.specs.Faults.{roster_fault_number, roster_fault_line, roster_fault_byte}
use Rattle.sheets.specs.Faults as sheet
use Rattle.monitor.specs.declared.fault.MonitorFault.{MonitorFault}
use Rattle.monitor.specs.declared.fault.MonitorFault.TheVariants.{HasRoster, Roster, NoPerson, NoSlot, LayNotPermitted, ViewNotPermitted, Sheet, Cut}

abbrev pub fault_number : MonitorFault → ℕ
fault_number HasRoster = 6
fault_number (Roster fault) = roster_fault_number fault
fault_number NoPerson = 10
fault_number NoSlot = 11
fault_number LayNotPermitted = 12
fault_number ViewNotPermitted = 13
fault_number (Sheet fault) = sheet.fault_number fault
fault_number (Cut turns) = 33

abbrev pub fault_row : MonitorFault → ℕ
fault_row HasRoster = 0
fault_row (Roster fault) = roster_fault_line fault
fault_row NoPerson = 0
fault_row NoSlot = 0
fault_row LayNotPermitted = 0
fault_row ViewNotPermitted = 0
fault_row (Sheet fault) = sheet.fault_row fault
fault_row (Cut turns) = 0

abbrev pub fault_byte : MonitorFault → ℕ
fault_byte HasRoster = 0
fault_byte (Roster fault) = roster_fault_byte fault
fault_byte NoPerson = 0
fault_byte NoSlot = 0
fault_byte LayNotPermitted = 0
fault_byte ViewNotPermitted = 0
fault_byte (Sheet fault) = sheet.fault_byte fault
fault_byte (Cut turns) = 0

-- the turns that a run was given that was cut
abbrev pub fault_count : MonitorFault → ℕ
fault_count HasRoster = 0
fault_count (Roster fault) = 0
fault_count NoPerson = 0
fault_count NoSlot = 0
fault_count LayNotPermitted = 0
fault_count ViewNotPermitted = 0
fault_count (Sheet fault) = 0
fault_count (Cut turns) = turns
