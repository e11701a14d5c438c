use Rattle.std.proofs.Common.{◌≡◌, ◌++◌, string_bytes}
use Rattle.console.specs.Onward.{to_print}
use Rattle.console.proofs.session.answer_lines.Given as goal

-- what is printed so far, and what is still to print, are all
abbrev pub invariant-loop-reply : goal.invariant-loop-reply
invariant-loop-reply l =
    string_bytes l.printed ++ to_print l.reply-iterator.window.monitor.table l.reply-iterator.left.now ≡ to_print l.fn.window.monitor.table l.lines
