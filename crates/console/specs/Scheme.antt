-- The scheme at the window: a pair of three topics, low, and a ladder of four, high. Assumes nothing.
use Rattle.std.specs.Prelude.{ℕ, Bool}
use Rattle.table.specs.declared.table.Table.{Table}
use Rattle.labels.specs.Schemes.{topics_flows, topics_joins, ladder_flows, ladder_joins, ladder_bits, pair_flows, pair_joins, pair_bits}
use Rattle.noninterference.specs.Monitor.{Monitor}
use Rattle.monitor.specs.Boxes.{box_of}

abbrev pub window_flows : ℕ → ℕ → Bool
window_flows = pair_flows (topics_flows 3) 3 (ladder_flows 4) ladder_bits

abbrev pub window_joins : ℕ → ℕ → ℕ
window_joins = pair_joins (topics_joins 3) 3 (ladder_joins 4) ladder_bits

abbrev pub window_bits : ℕ
window_bits = pair_bits 3 ladder_bits

-- the box at the window, with a table that a roster gave
abbrev pub window_of : Table → Monitor
window_of table = box_of window_flows window_joins window_bits table
