-- From one reply to the next: what there is to print, and how many lines it is. Assumes nothing.
use Rattle.std.specs.Prelude.{◌≡◌, ℕ, suc, List, [], ◌++◌, map, length, Some, None, Option}
use Rattle.std.specs.List.{concat}
use Rattle.table.specs.declared.table.Table.{Table}
use Rattle.console.specs.Lines.{lines_of}
use Rattle.console.specs.Console.{said, replies}
use Rattle.console.specs.Scheme.{window_of}
use Rattle.console.specs.Replies.{reply_line}
use Rattle.monitor.specs.declared.reply.Reply.{Reply}

-- what is printed for these call lines on a box with this table
abbrev pub to_print : Table → List ℕ → List ℕ
to_print table text = concat (replies (window_of table) table.slots (map said (lines_of text)))

-- The next reply comes first in what there is to print, and is for one line; there is none where there is nothing to print.
abbrev pub Onward : Table → List ℕ → Option Reply → Table → List ℕ → Type 0
Onward before text None after rest = to_print before text ≡ []
Onward before text (Some reply) after rest =
    (to_print before text ≡ reply_line reply ++ to_print after rest) × (length (lines_of text) ≡ suc (length (lines_of rest)))
