-- A box under its scheme, in the words of Boxes. Assumes nothing.
use Rattle.std.specs.Prelude.{◌≡◌}
use Rattle.labels.specs.declared.scheme.Scheme.{Ghosts}
use Rattle.table.specs.declared.table.Table.{Table}
use Rattle.noninterference.specs.Monitor.{Call, Answer, Monitor}
use Rattle.monitor.specs.declared.monitor.Monitor as box
use Rattle.monitor.specs.Boxes.{box_of, Stepped}

module _ {S : Type 0} (its : Ghosts S) where
  -- the monitor of each table under a scheme
  abbrev pub box_under : S → Table → Monitor
  box_under scheme = box_of (its.flows scheme) (its.joins scheme) (its.bits scheme)

  -- the monitor of a box: of its table, under its scheme
  abbrev pub the_box : box.Monitor S → Monitor
  the_box b = box_under b.scheme b.table

  -- the box answers a call as its monitor does
  abbrev pub Steps : box.Monitor S → Call → Answer → box.Monitor S → Type 0
  Steps before call answer after = Stepped (its.flows before.scheme) (its.joins before.scheme) (its.bits before.scheme) before.table call answer after.table

-- the scheme stays, and whether the box has a roster
abbrev pub OnlyTableChanges : {S : Type 0} → box.Monitor S → box.Monitor S → Type 0
OnlyTableChanges before after = (after.scheme ≡ before.scheme) × (after.rostered ≡ before.rostered)
