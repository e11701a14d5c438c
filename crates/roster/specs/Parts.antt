-- A line of the form and its parts, and what listing them does. Only contracts of private functions cite them. Assumes nothing.
use Rattle.std.specs.Prelude.{◌≡◌, ℕ, cond, List, ◌∷◌, ◌++◌, Some, None, Ok, Err, Option, Result, nat_lt}
use Rattle.table.specs.declared.table.Table.{Table}
use Rattle.numerals.specs.Decimal.{written}
use Rattle.roster.specs.declared.fault.LineReason.{LineReason}
use Rattle.roster.specs.declared.fault.LineReason.TheVariants.{Number, Label}
use Rattle.roster.specs.declared.kind.Kind as listed
use Rattle.roster.specs.declared.kind.Kind.TheVariants as code
use Rattle.roster.specs.declared.line.RosterLine.{RosterLine}
use Rattle.roster.specs.declared.line.RosterLine.TheVariants.{Person, Slot}
use Rattle.roster.specs.Spelling.{Kind, person, slot, Entry, letter, spell}
use Rattle.roster.specs.Reading.{label_limit, fault_in, with_entry}

-- two numbers with a comma between them
abbrev pub two : ℕ → ℕ → List ℕ
two n m = written n ++ (44 ∷ written m)

pub record TwoNumbers (bs : List ℕ) : Type 0 where
  pub first : ℕ
  pub second : ℕ
  pub is : bs ≡ two first second

-- a line without its byte 10
abbrev pub unended : Entry → List ℕ
unended e = letter e.kind ∷ 44 ∷ two e.number e.label

pub record Whole (line : List ℕ) : Type 0 where
  pub entry : Entry
  pub is : line ≡ unended entry

-- the kind that the code speaks of
abbrev pub kind_of : listed.Kind → Kind
kind_of code.Person = person
kind_of code.Slot = slot

-- the parts are those of the line that spells e
abbrev pub Parted : RosterLine → Entry → Type 0
Parted (Person number label) e = (e.kind ≡ person) × (number.now ≡ written e.number) × (label.now ≡ written e.label)
Parted (Slot number label) e = (e.kind ≡ slot) × (number.now ≡ written e.number) × (label.now ≡ written e.label)

-- a text begins with the line that has these parts, and the rest comes after it
abbrev pub Begins : List ℕ → RosterLine → List ℕ → Type 0
Begins text line rest = (e : Entry) × (text ≡ spell e ++ rest) × Parted line e

-- a number of which there are `count`, and a label of so many bits
abbrev pub in_range : ℕ → ℕ → Result ℕ LineReason
in_range count n = cond (nat_lt n count) (Ok n) (Err Number)

abbrev pub in_width : ℕ → ℕ → Result ℕ LineReason
in_width width l = cond (nat_lt l (label_limit width)) (Ok l) (Err Label)

-- the table before and after: at a fault it stays, and else it has the entry
abbrev pub KeptAs : Option LineReason → Entry → Table → Result (Unit {0}) LineReason → Table → Type 0
KeptAs (Some reason) e before r now = (r ≡ Err reason) × (now ≡ before)
KeptAs None e before r now = (r ≡ Ok tt) × (now ≡ with_entry e before)

abbrev pub Kept : ℕ → Entry → Table → Result (Unit {0}) LineReason → Table → Type 0
Kept width e before r now = KeptAs (fault_in width e before) e before r now

abbrev pub entry_of : Kind → ℕ → ℕ → Entry
entry_of k n l = record { kind = k; number = n; label = l }
