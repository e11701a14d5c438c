use Rattle.std.proofs.Common.{rules}
use Rattle.table.specs.Slots.{listed}
use Rattle.rows.proofs.Searching.{bytes_are_left}
use Rattle.rows.proofs.reader.row_from.Goals as goal

pub returns-in_err-check_bytes-clause-refused : goal.returns-in_err-check_bytes-clause-refused
returns-in_err-check_bytes-clause-refused c =
    search (rules, bytes_are_left c.in_ok-kind.kind (listed c.args.table.now.slots) c.args.bytes (search rules) (search rules))

pub returns-clause-refused : goal.returns-clause-refused
returns-clause-refused c =
    search (rules, bytes_are_left c.in_ok-kind.kind (listed c.args.table.now.slots) c.args.bytes (search rules) (search rules))
