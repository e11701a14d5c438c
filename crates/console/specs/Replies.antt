-- The line of a reply. Assumes nothing.
use Rattle.std.specs.Prelude.{ℕ, List}
use Rattle.monitor.specs.declared.reply.Reply.{Reply}
use Rattle.console.specs.Printing.{printed_line}

abbrev pub reply_line : Reply → List ℕ
reply_line r = printed_line r.number r.row r.byte r.value
