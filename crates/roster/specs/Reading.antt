-- Reading a roster byte by byte: what a line has said so far, its faults in their order, and the table. Assumes nothing.
use Rattle.std.specs.Prelude.{ℕ, suc, ◌+◌, ◌-◌, ◌*◌, ◌^◌, min, Bool, cond, not, ◌&&◌, List, [], ◌∷◌, length, Some, None, Ok, Err, Option, Result, ◌==◌, nat_lt}
use Rattle.table.specs.declared.table.Table.{Table}
use Rattle.table.specs.Slots.{blank_table, person_at, is_listed, listed, with_person, with_slot}
use Rattle.numerals.specs.Numerals.{is_digit}
use Rattle.roster.specs.declared.fault.RosterFault.{RosterFault}
use Rattle.roster.specs.declared.fault.RosterFault.TheVariants.{TooLong, Line}
use Rattle.roster.specs.declared.fault.LineReason.{LineReason}
use Rattle.roster.specs.declared.fault.LineReason.TheVariants.{Form, Number, ListedBefore, Label}
use Rattle.roster.specs.Spelling.{Kind, person, slot, Entry}

-- ---- the form of a line

-- what a line has said so far
pub data Place : Type 0 where
  start : Place
  letter_of : Kind → Place
  comma : Kind → Place
  number : Kind → ℕ → Place
  comma_after : Kind → ℕ → Place
  label : Kind → ℕ → ℕ → Place

-- what the next byte makes of it: no line has it there, the line goes on, or it is whole
pub data Next : Type 0 where
  never : Next
  more : Place → Next
  whole : Entry → Next

-- one more digit; none comes after a 0 alone
abbrev pub grown : ℕ → ℕ → (ℕ → Place) → Next
grown n b at = cond (is_digit b && not (n == 0)) (more (at (n * 10 + (b - 48)))) never

abbrev pub after : Place → ℕ → Next
after start b = cond (b == 80) (more (letter_of person)) (cond (b == 83) (more (letter_of slot)) never)
after (letter_of k) b = cond (b == 44) (more (comma k)) never
after (comma k) b = cond (is_digit b) (more (number k (b - 48))) never
after (number k n) b = cond (b == 44) (more (comma_after k n)) (grown n b (number k))
after (comma_after k n) b = cond (is_digit b) (more (label k n (b - 48))) never
after (label k n m) b = cond (b == 10) (whole (record { kind = k; number = n; label = m })) (grown m b (label k n))

-- ---- what a line of the form lists

-- how many there are
abbrev pub limit : Kind → ℕ
limit person = 16
limit slot = 64

-- labels are below 2 to the power of the width, and in 64 bits whatever the width
abbrev pub label_limit : ℕ → ℕ
label_limit width = min (2 ^ width) (2 ^ 64)

abbrev pub listed_before : Kind → ℕ → Table → Bool
listed_before person n t = is_listed (person_at t.people n)
listed_before slot n t = listed t.slots n

-- the number, then that it is listed, then the label
abbrev pub fault_in : ℕ → Entry → Table → Option LineReason
fault_in width e t =
    cond (nat_lt e.number (limit e.kind))
    (cond (listed_before e.kind e.number t) (Some ListedBefore) (cond (nat_lt e.label (label_limit width)) None (Some Label)))
    (Some Number)

abbrev pub with_label : Kind → ℕ → ℕ → Table → Table
with_label person n l t = record { people = with_person t.people n l; slots = t.slots }
with_label slot n l t = record { people = t.people; slots = with_slot t.slots n l }

abbrev pub with_entry : Entry → Table → Table
with_entry e t = with_label e.kind e.number e.label t

-- ---- the text

-- line i from a place that is k bytes after its start, with the table so far, and the lines after it
unfoldable pub read_from : ℕ → Table → ℕ → Place → ℕ → List ℕ → Result Table RosterFault
read_from width t i p k [] = cond (k == 0) (Ok t) (Err (Line i (Form k)))
read_from width t i p k (b ∷ bs) =
    elim (after p b) [
      | never ↦ Err (Line i (Form k))
      | more q ↦ read_from width t i q (suc k) bs
      | whole e ↦ elim (fault_in width e t) [ Some reason ↦ Err (Line i reason) | None ↦ read_from width (with_entry e t) (suc i) start 0 bs ]
    ]

abbrev pub lines_of : ℕ → List ℕ → Result Table RosterFault
lines_of width text = read_from width blank_table 0 start 0 text

-- a text of more than 4096 bytes is not read
abbrev pub roster_of : ℕ → List ℕ → Result Table RosterFault
roster_of width text = cond (nat_lt 4096 (length text)) (Err TooLong) (lines_of width text)
