-- A call of which only the beginning of the sheet is kept. Assumes nothing.
use Rattle.std.specs.Prelude.{ℕ, take}
use Rattle.noninterference.specs.Monitor.{Call, lay, view, run}

-- at most so many bytes of a sheet
abbrev pub clipped : ℕ → Call → Call
clipped most (lay n i v) = lay n i v
clipped most (view n i) = view n i
clipped most (run n sheet turns) = run n (take most sheet) turns
