-- What reading a sheet means: a sheet that is read writes the rows of a program, and a refusal names the first fault.
-- Assumes nothing.
use Rattle.std.specs.Prelude.{◌≡◌, ℕ, ◌%◌, ◌<◌, ◌≤◌, Bool, List, [], ◌∷◌, ◌++◌, length, Ok, Err, Result}
use Rattle.std.specs.List.{flat_map, AllByRecursion}
use Rattle.rows.specs.Refusing.{FirstFault}
use Rattle.rows.specs.Writing.{bytes_of, Writes}
use Rattle.rows.specs.declared.row.Row.{Row}
use Rattle.rows.specs.declared.row.Row.TheVariants.{If, Else, While, End}
use Rattle.rows.specs.declared.fault.RowFault.{RowFault}
use Rattle.rows.specs.declared.fault.RowReason.{RowReason}
use Rattle.rows.specs.declared.fault.RowReason.TheVariants.{ElseOutOfPlace, EndOutOfPlace, TooDeep}
use Rattle.sheets.specs.Programs.{Block, listing}
use Rattle.sheets.specs.Reading.{read_sheet}
use Rattle.sheets.specs.Walk.{Program}
use Rattle.sheets.specs.declared.fault.SheetFault.{SheetFault}
use Rattle.sheets.specs.declared.fault.SheetFault.TheVariants as fault

-- in each row the slots are listed, and the constant is a value
abbrev pub LawfulRows : (ℕ → Bool) → List Row → Type 0
LawfulRows lists rows = AllByRecursion (λ r. Writes lists (bytes_of r) r) rows

-- the bytes write the rows of a program, row after row
pub record Written (lists : ℕ → Bool) (bytes : List ℕ) (rows : List Row) : Type 0 where
  pub written : bytes ≡ flat_map bytes_of rows
  pub few : length rows ≤ 256
  pub lawful : LawfulRows lists rows
  pub program : Program rows

-- rows that a program could begin with
pub record Begins (rows : List Row) : Type 0 where
  pub rest : List Row
  pub program : Program (rows ++ rest)

-- why a row is refused that no program could have in its place
pub data Misplaced : Row → RowReason → Type 0 where
  else_row : Misplaced Else ElseOutOfPlace
  end_row : Misplaced End EndOutOfPlace
  if_row : (guard : ℕ) → Misplaced (If guard) TooDeep
  while_row : (guard : ℕ) → Misplaced (While guard) TooDeep

-- why the row that comes after these, with these eight bytes, is refused: the faults of its bytes come first
pub data Refusal (lists : ℕ → Bool) (before : List Row) (eight : List ℕ) (reason : RowReason) : Type 0 where
  faulty : FirstFault lists eight reason → Refusal lists before eight reason
  misplaced : (r : Row) → Writes lists eight r → (Begins (before ++ (r ∷ [])) → ⊥) → Misplaced r reason → Refusal lists before eight reason

-- the first row that is refused
pub record RowRefused (lists : ℕ → Bool) (bytes : List ℕ) (f : RowFault) : Type 0 where
  pub before : List Row
  pub eight : List ℕ
  pub after : List ℕ
  pub written : bytes ≡ flat_map bytes_of before ++ (eight ++ after)
  pub whole : length eight ≡ 8
  pub lawful : LawfulRows lists before
  pub begins : Begins before
  pub here : f.row ≡ length before
  pub why : Refusal lists before eight f.reason

-- a row that opens a block, and the rows inside that block: all of them so far
pub data Inside : Row → List Row → Type 0 where
  in_loop : (guard : ℕ) (body : Block) → Inside (While guard) (listing body)
  in_first : (guard : ℕ) (first : Block) → Inside (If guard) (listing first)
  in_second : (guard : ℕ) (first second : Block) → Inside (If guard) (listing first ++ (Else ∷ listing second))

-- row k opens the latest block that is still open after these rows
pub record LatestOpen (rows : List Row) (k : ℕ) : Type 0 where
  pub front : List Row
  pub opening : Row
  pub inner : List Row
  pub parts : rows ≡ front ++ (opening ∷ inner)
  pub here : length front ≡ k
  pub inside : Inside opening inner

-- no row is refused, and row k opens the latest block that is still open
pub record LeftOpen (lists : ℕ → Bool) (bytes : List ℕ) (k : ℕ) : Type 0 where
  pub rows : List Row
  pub written : bytes ≡ flat_map bytes_of rows
  pub lawful : LawfulRows lists rows
  pub begins : Begins rows
  pub open_at : LatestOpen rows k

-- at most 256 rows of 8 bytes
abbrev pub LawfulLength : List ℕ → Type 0
LawfulLength bytes = (length bytes ≤ 2048) × (length bytes % 8 ≡ 0)

abbrev pub Refused : (ℕ → Bool) → List ℕ → SheetFault → Type 0
Refused lists bytes fault.Length = LawfulLength bytes → ⊥
Refused lists bytes (fault.Row f) = LawfulLength bytes × RowRefused lists bytes f
Refused lists bytes (fault.StillOpen k) = LawfulLength bytes × LeftOpen lists bytes k

-- what it means that a sheet is made of the bytes, or that they are refused
abbrev pub Means : {A : Type 0} → (ℕ → Bool) → List ℕ → (A → List Row) → Result A SheetFault → Type 0
Means lists bytes to_rows (Ok sheet) = Written lists bytes (to_rows sheet)
Means lists bytes to_rows (Err f) = Refused lists bytes f

-- the bytes are read as these rows exactly if they write them, as the rows of a program
pub record SheetReading (lists : ℕ → Bool) (bytes : List ℕ) (rows : List Row) : Type 0 where
  pub only_written : read_sheet lists bytes ≡ Ok rows → Written lists bytes rows
  pub all_written : Written lists bytes rows → read_sheet lists bytes ≡ Ok rows

abbrev pub SheetsAreRead : Type 0
SheetsAreRead =
    (lists : ℕ → Bool) (bytes : List ℕ) (rows : List Row) →
    AllByRecursion (λ byte. byte < 256) bytes → SheetReading lists bytes rows

-- the bytes are refused for a fault exactly if it is the first
pub record SheetRefusing (lists : ℕ → Bool) (bytes : List ℕ) (f : SheetFault) : Type 0 where
  pub only_first : read_sheet lists bytes ≡ Err f → Refused lists bytes f
  pub all_first : Refused lists bytes f → read_sheet lists bytes ≡ Err f

abbrev pub SheetsAreRefused : Type 0
SheetsAreRefused =
    (lists : ℕ → Bool) (bytes : List ℕ) (f : SheetFault) →
    AllByRecursion (λ byte. byte < 256) bytes → SheetRefusing lists bytes f
