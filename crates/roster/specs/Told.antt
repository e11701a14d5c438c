-- What reading a text comes to, in terms of how rosters are spelled and what entries list. Assumes nothing.
use Rattle.std.specs.Prelude.{◌≡◌, ℕ, ◌^◌, ◌<◌, ◌≤◌, Bool, cond, ◌&&◌, List, [], ◌∷◌, ◌++◌, length, pos, Some, None, Ok, Err, Option, Result, ◌==◌}
use Rattle.table.specs.declared.table.Table.{Table}
use Rattle.table.specs.Slots.{person_at, label_at, value_at}
use Rattle.roster.specs.declared.fault.RosterFault.{RosterFault}
use Rattle.roster.specs.declared.fault.RosterFault.TheVariants.{TooLong, Line}
use Rattle.roster.specs.declared.fault.LineReason.{LineReason}
use Rattle.roster.specs.declared.fault.LineReason.TheVariants.{Form, Number, ListedBefore, Label}
use Rattle.roster.specs.Spelling.{Kind, person, slot, Entry, letter, spell, spelled, FaultAt}
use Rattle.roster.specs.Reading.{limit, label_limit, roster_of}

-- the entry is of the person or the slot of number i
abbrev pub names : Kind → ℕ → Entry → Bool
names k i e = letter e.kind == letter k && e.number == i

-- the label that entries give to a person or a slot, if they list it
abbrev pub given : Kind → ℕ → List Entry → Option ℕ
given k i [] = None
given k i (e ∷ es) = cond (names k i e) (Some e.label) (given k i es)

-- an entry after others: its number is in range, they do not list it, and its label is below the limit
pub record InOrder (width : ℕ) (before : List Entry) (e : Entry) : Type 0 where
  pub in_range : e.number < limit e.kind
  pub new : given e.kind e.number before ≡ None
  pub fits : e.label < label_limit width

-- entries of which each is in order after those before it
pub data AllInOrder (width : ℕ) : List Entry → Type 0 where
  none : AllInOrder width []
  one_more : {es : List Entry} {e : Entry} → AllInOrder width es → InOrder width es e → AllInOrder width (es ++ (e ∷ []))

-- the first thing that is at fault in an entry after others
pub data AtFault (width : ℕ) (before : List Entry) (e : Entry) : LineReason → Type 0 where
  out_of_range : limit e.kind ≤ e.number → AtFault width before e Number
  not_new : {l : ℕ} → e.number < limit e.kind → given e.kind e.number before ≡ Some l → AtFault width before e ListedBefore
  too_wide : e.number < limit e.kind → given e.kind e.number before ≡ None → label_limit width ≤ e.label → AtFault width before e Label

-- a table in which exactly the entries have their labels, and every value is 0
pub record Holds (t : Table) (es : List Entry) : Type 0 where
  pub people : (i : ℕ) → person_at t.people i ≡ given person i es
  pub slots : (i : ℕ) → label_at t.slots i ≡ given slot i es
  pub values : (i : ℕ) → value_at t.slots i ≡ pos 0
  pub sixteen : length t.people ≡ 16
  pub sixty_four : length t.slots ≡ 64

pub data Tells (width : ℕ) (text : List ℕ) : Result Table RosterFault → Type 0 where
  too_long : 4096 < length text → Tells width text (Err TooLong)
  -- the text is the spelling of entries that are all in order
  accepted : {t : Table} (es : List Entry) → length text ≤ 4096 → text ≡ spelled es → AllInOrder width es → Holds t es → Tells width text (Ok t)
  -- after such entries comes a line that is not of the form
  formless : {k : ℕ} (es : List Entry) (rest : List ℕ) → length text ≤ 4096 → text ≡ spelled es ++ rest → AllInOrder width es → 0 < length rest → FaultAt rest k → Tells width text (Err (Line (length es) (Form k)))
  -- after such entries comes one that is at fault
  refused : {reason : LineReason} (es : List Entry) (e : Entry) (rest : List ℕ) → length text ≤ 4096 → text ≡ spelled es ++ (spell e ++ rest) → AllInOrder width es → AtFault width es e reason → Tells width text (Err (Line (length es) reason))

-- what is read of a text is told of it, and nothing else is
pub record Exact : Type 0 where
  pub told : (width : ℕ) (text : List ℕ) → Tells width text (roster_of width text)
  pub only : (width : ℕ) (text : List ℕ) (r : Result Table RosterFault) → Tells width text r → r ≡ roster_of width text
  -- where the width is at most 64, the limit of labels is 2 to the power of it
  pub limited : (width : ℕ) → width ≤ 64 → label_limit width ≡ 2 ^ width
