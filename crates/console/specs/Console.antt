-- What is printed for an input: the roster's fault, or a line for each call line. Assumes nothing.
use Rattle.std.specs.Prelude.{ℕ, cond, List, [], ◌∷◌, map, pos, Some, None, Ok, Err, Option, Result}
use Rattle.std.specs.List.{concat}
use Rattle.table.specs.declared.table.Slot.{Slot}
use Rattle.table.specs.declared.table.Table.{Table}
use Rattle.roster.specs.declared.fault.RosterFault.{RosterFault}
use Rattle.roster.specs.Faults.{roster_fault_number, roster_fault_line, roster_fault_byte}
use Rattle.roster.specs.Reading.{roster_of}
use Rattle.noninterference.specs.Monitor.{Call, Answer, Monitor, answers}
use Rattle.monitor.specs.Replies.{reply_of}
use Rattle.console.specs.Lines.{Line, roster_part, call_lines}
use Rattle.console.specs.Reading.{call_in}
use Rattle.console.specs.Printing.{printed_line}
use Rattle.console.specs.Replies.{reply_line}
use Rattle.console.specs.Scheme.{window_bits, window_of}

-- a line that is not ended says nothing
abbrev pub said : Line → Option Call
said line = cond line.ended (call_in line.bytes) None

-- the calls among lines
abbrev pub calls_of : List (Option Call) → List Call
calls_of [] = []
calls_of (None ∷ lines) = calls_of lines
calls_of (Some call ∷ lines) = call ∷ calls_of lines

-- the line that is printed for an answer: its four numbers
abbrev pub answer_line : Answer → List ℕ
answer_line answer = reply_line (reply_of answer)

abbrev pub faulty_line : List ℕ
faulty_line = printed_line 14 0 0 (pos 0)

-- the lines that answer the calls, in their order, with 14 for each faulty line between them
abbrev pub reply_lines : List (Option Call) → List Answer → List (List ℕ)
reply_lines [] answers = []
reply_lines (None ∷ lines) answers = faulty_line ∷ reply_lines lines answers
reply_lines (Some call ∷ lines) [] = []
reply_lines (Some call ∷ lines) (answer ∷ answers) = answer_line answer ∷ reply_lines lines answers

-- what is printed for each of these lines on a box, from the slots that it has before the first of them
abbrev pub replies : Monitor → List Slot → List (Option Call) → List (List ℕ)
replies M slots lines = reply_lines lines (answers M slots (calls_of lines))

abbrev pub printed_by : Result Table RosterFault → List (Option Call) → List ℕ
printed_by (Err fault) lines = printed_line (roster_fault_number fault) (roster_fault_line fault) (roster_fault_byte fault) (pos 0)
printed_by (Ok table) lines = concat (replies (window_of table) table.slots lines)

-- what the roster at the front of an input comes to
abbrev pub set_up : List ℕ → Result Table RosterFault
set_up input = roster_of window_bits (roster_part input)

abbrev pub printed : List ℕ → List ℕ
printed input = printed_by (set_up input) (map said (call_lines input))
