-- How the bytes of a sheet are read: row by row, each with its own faults first and then its place among the blocks.
-- Assumes nothing.
use Rattle.std.specs.Prelude.{◌≡◌, ℕ, zero, suc, ◌+◌, ◌/◌, ◌%◌, Bool, true, cond, ◌&&◌, List, [], ◌∷◌, length, take, drop, Ok, Err, Result, ◌==◌, nat_le, nat_lt}
use Rattle.rows.specs.Reading.{read_row}
use Rattle.rows.specs.Writing.{slots_of}
use Rattle.rows.specs.declared.row.Row.{Row}
use Rattle.rows.specs.declared.fault.RowFault.{RowFault}
use Rattle.sheets.specs.Walk.{and_then, at_end, entered}
use Rattle.sheets.specs.declared.fault.SheetFault.{SheetFault}
use Rattle.sheets.specs.declared.fault.SheetFault.TheVariants as fault
use Rattle.sheets.specs.declared.walker.Open.{Open}

-- at most 256 rows of 8 bytes
abbrev pub lawful_length : ℕ → Bool
lawful_length n = nat_le n 2048 && n % 8 == 0

-- how many rows so many bytes are
abbrev pub row_count : ℕ → Result ℕ SheetFault
row_count n = cond (lawful_length n) (Ok (n / 8)) (Err fault.Length)

-- what a row gives is used, or its fault refuses the sheet
abbrev pub going_on : {A B : Type 0} → Result A RowFault → (A → Result B SheetFault) → Result B SheetFault
going_on (Ok x) next = next x
going_on (Err f) next = Err (fault.Row f)

-- a row, and the rows after it
abbrev pub with_first : Row → Result (List Row) SheetFault → Result (List Row) SheetFault
with_first r (Ok rows) = Ok (r ∷ rows)
with_first r (Err f) = Err f

-- the rows that are left, the first of them row i, with their bytes and the blocks that are open before them
abbrev pub read_rows : (ℕ → Bool) → ℕ → ℕ → List ℕ → List Open → Result (List Row) SheetFault
read_rows lists zero i bytes st = at_end [] st
read_rows lists (suc left) i bytes st =
    going_on (read_row lists i (take 8 bytes)) (λ r.
    going_on (entered r i st) (λ after.
    with_first r (read_rows lists left (i + 1) (drop 8 bytes) after)))

-- the bytes of a sheet, given which slots are listed
abbrev pub read_sheet : (ℕ → Bool) → List ℕ → Result (List Row) SheetFault
read_sheet lists bytes = and_then (row_count (length bytes)) (λ count. read_rows lists count 0 bytes [])

-- these are numbers of slots: each is below 64
abbrev pub in_range : List ℕ → Bool
in_range [] = true
in_range (k ∷ ks) = nat_lt k 64 && in_range ks

-- the same of each slot that a row names, for every row
abbrev pub all_within : List Row → Bool
all_within [] = true
all_within (r ∷ rows) = in_range (slots_of r) && all_within rows

-- a sheet is made of the rows that are read, or refused as reading refuses it
abbrev pub Made : {A : Type 0} → Result (List Row) SheetFault → (A → List Row) → Result A SheetFault → Type 0
Made read to_rows (Ok sheet) = read ≡ Ok (to_rows sheet)
Made read to_rows (Err f) = read ≡ Err f
