-- The people and slots of a table: what stands in one, and what a put and a listing change. Assumes nothing.
use Rattle.std.specs.Prelude.{ℕ, Bool, true, false, List, get_or, replicate, ℤ, pos, Some, None, Option, slice_index_or, slice_set}
use Rattle.table.specs.declared.table.Slot.{Slot}
use Rattle.table.specs.declared.table.Table.{Table}

-- a slot that is not listed, and what is read past the last slot
abbrev pub blank : Slot
blank = record { label = None; value = pos 0 }

-- nobody and nothing is listed
abbrev pub blank_table : Table
blank_table = record { people = replicate 16 None; slots = replicate 64 blank }

-- the label of person i, if listed
abbrev pub person_at : List (Option ℕ) → ℕ → Option ℕ
person_at people i = slice_index_or people i None

abbrev pub value_at : List Slot → ℕ → ℤ
value_at slots i = (get_or slots i blank).value

-- the label of slot i, if it is listed
abbrev pub label_at : List Slot → ℕ → Option ℕ
label_at slots i = (get_or slots i blank).label

abbrev pub is_listed : Option ℕ → Bool
is_listed None = false
is_listed (Some l) = true

-- slot i is listed
abbrev pub listed : List Slot → ℕ → Bool
listed slots i = is_listed (label_at slots i)

abbrev pub with_value : Slot → ℤ → Slot
with_value slot v = record { label = slot.label; value = v }

-- the value of slot i becomes v: its label and every other slot stay
abbrev pub put : List Slot → ℕ → ℤ → List Slot
put slots i v = slice_set slots i (with_value (slice_index_or slots i blank) v)

-- person i is listed with this label: everybody else stays
abbrev pub with_person : List (Option ℕ) → ℕ → ℕ → List (Option ℕ)
with_person people i l = slice_set people i (Some l)

-- slot i is listed with this label and has the value 0: every other slot stays
abbrev pub with_slot : List Slot → ℕ → ℕ → List Slot
with_slot slots i l = slice_set slots i (record { label = Some l; value = pos 0 })
