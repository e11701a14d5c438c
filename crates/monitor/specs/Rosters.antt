-- What a roster does to a box. Assumes nothing.
use Rattle.std.specs.Prelude.{Bool, true, false, Ok, Err, Result}
use Rattle.table.specs.declared.table.Table.{Table}
use Rattle.roster.specs.declared.fault.RosterFault.{RosterFault}
use Rattle.monitor.specs.declared.fault.MonitorFault.{MonitorFault}
use Rattle.monitor.specs.declared.fault.MonitorFault.TheVariants.{HasRoster, Roster}

-- The answer, then the table and whether the box has a roster, given whether it had one, its table, and what is read of the text.
-- The first roster that is accepted stays.
abbrev pub with_roster : Bool → Table → Result Table RosterFault → Result (Unit {0}) MonitorFault × Table × Bool
with_roster true table read = (Err HasRoster, table, true)
with_roster false table (Ok listed) = (Ok tt, listed, true)
with_roster false table (Err fault) = (Err (Roster fault), table, false)
