-- The box that a roster sets up. Assumes nothing.
use Rattle.std.specs.Prelude.{◌≡◌, Ok, Err, Result}
use Rattle.table.specs.declared.table.Table.{Table}
use Rattle.roster.specs.declared.fault.RosterFault.{RosterFault}
use Rattle.monitor.specs.declared.fault.MonitorFault.{MonitorFault}
use Rattle.monitor.specs.declared.fault.MonitorFault.TheVariants.{Roster}
use Rattle.console.specs.declared.window.Window.{Window}

-- given what is read of the roster: a box with the table that it lists, or its fault
abbrev pub SetUp : Result Table RosterFault → Result Window MonitorFault → Type 0
SetUp read (Ok window) = read ≡ Ok window.monitor.table
SetUp read (Err why) = (fault : RosterFault) × (read ≡ Err fault) × (why ≡ Roster fault)
