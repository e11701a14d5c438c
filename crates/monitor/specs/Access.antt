-- The inner contract of a call that names a person and a slot. Assumes nothing.
use Rattle.std.specs.Prelude.{ℕ, Some, None, Ok, Err, Option, Result}
use Rattle.monitor.specs.declared.fault.MonitorFault.{MonitorFault}
use Rattle.monitor.specs.declared.fault.MonitorFault.TheVariants.{NoPerson, NoSlot}

-- the labels of a person and of a slot, or the first that there is not
abbrev pub both_labels : Option ℕ → Option ℕ → Result (ℕ × ℕ) MonitorFault
both_labels None slot = Err NoPerson
both_labels (Some p) None = Err NoSlot
both_labels (Some p) (Some l) = Ok (p, l)
