-- The block walker: what each row makes of the open blocks, and which rows are accepted. Assumes nothing.
use Rattle.std.specs.Prelude.{◌≡◌, ℕ, ◌+◌, ◌≤◌, Bool, true, false, cond, List, [], ◌∷◌, length, reverse, Some, None, Ok, Err, Option, Result, nat_lt}
use Rattle.sheets.specs.Programs.{Block, listing, nesting}
use Rattle.sheets.specs.declared.fault.SheetFault.{SheetFault}
use Rattle.sheets.specs.declared.fault.SheetFault.TheVariants.{StillOpen}
use Rattle.sheets.specs.declared.walker.Open.{Open}
use Rattle.sheets.specs.declared.walker.Open.TheVariants.{InThen, InElse, InLoop}
use Rattle.sheets.specs.declared.walker.Walker.{Walker}
use Rattle.rows.specs.declared.row.Row.{Row}
use Rattle.rows.specs.declared.row.Row.TheVariants.{Idle, PutConstant, SlotWithConstant, TwoSlots, If, Else, While, End}
use Rattle.rows.specs.declared.fault.RowFault.{RowFault}
use Rattle.rows.specs.declared.fault.RowReason.{RowReason}
use Rattle.rows.specs.declared.fault.RowReason.TheVariants.{ElseOutOfPlace, EndOutOfPlace, TooDeep}

-- the row that opened a block
abbrev pub opener : Open → ℕ
opener (InThen k) = k
opener (InElse k j) = k
opener (InLoop k) = k

-- the row that opened the branch of it that is open: its else where that came
abbrev pub branch : Open → ℕ
branch (InThen k) = k
branch (InElse k j) = j
branch (InLoop k) = k

abbrev pub refused : {A : Type 0} → ℕ → RowReason → Result A RowFault
refused i why = Err (record { row = i; reason = why })

-- A block is opened, unless 16 are open. The open blocks stand in a list, the latest first.
abbrev pub opened : Open → ℕ → List Open → Result (List Open) RowFault
opened o i st = cond (nat_lt (length st) 16) (Ok (o ∷ st)) (refused i TooDeep)

-- an else: its if goes on as an if that has had it
abbrev pub turned : ℕ → List Open → Result (List Open) RowFault
turned i [] = refused i ElseOutOfPlace
turned i (InThen k ∷ st) = Ok (InElse k i ∷ st)
turned i (InElse k j ∷ st) = refused i ElseOutOfPlace
turned i (InLoop k ∷ st) = refused i ElseOutOfPlace

abbrev pub closed : ℕ → List Open → Result (List Open) RowFault
closed i [] = refused i EndOutOfPlace
closed i (o ∷ st) = Ok st

-- what the row number i makes of the open blocks
abbrev pub entered : Row → ℕ → List Open → Result (List Open) RowFault
entered Idle i st = Ok st
entered (PutConstant target constant) i st = Ok st
entered (SlotWithConstant op target first constant) i st = Ok st
entered (TwoSlots op target first second) i st = Ok st
entered (If guard) i st = opened (InThen i) i st
entered Else i st = turned i st
entered (While guard) i st = opened (InLoop i) i st
entered End i st = closed i st

-- a second step after a first, which may refuse
abbrev pub and_then : {A B E : Type 0} → Result A E → (A → Result B E) → Result B E
and_then (Ok x) next = next x
and_then (Err fault) next = Err fault

-- the blocks that are open after these rows, the first of which is row i
abbrev pub walk : ℕ → List Row → List Open → Result (List Open) RowFault
walk i [] st = Ok st
walk i (r ∷ rows) st = and_then (entered r i st) (walk (i + 1) rows)

-- rows are accepted where the walk refuses none and leaves no block open
abbrev pub accepts : Result (List Open) RowFault → Bool
accepts (Ok []) = true
accepts (Ok (o ∷ st)) = false
accepts (Err fault) = false

-- after the last row: x where no block is open
abbrev pub at_end : {A : Type 0} → A → List Open → Result A SheetFault
at_end x [] = Ok x
at_end x (o ∷ st) = Err (StillOpen (opener o))

-- the rows list a block with at most 16 blocks open at once
pub record Program (rows : List Row) : Type 0 where
  pub block : Block
  pub shallow : nesting block ≤ 16
  pub lists : listing block ≡ rows

-- the walk accepts those rows and no others
abbrev pub Exact : Type 0
Exact = (rows : List Row) → (accepts (walk 0 rows []) ≡ true → Program rows) × (Program rows → accepts (walk 0 rows []) ≡ true)

-- the blocks that are open, the latest first
abbrev pub latest : Walker → List Open
latest walker = reverse walker.stack.items

abbrev pub newest : List Open → Option Open
newest [] = None
newest (o ∷ st) = Some o

-- the blocks that are open around it
abbrev pub beneath : List Open → List Open
beneath [] = []
beneath (o ∷ st) = st

-- the row that opened the latest open branch
abbrev pub latest_branch : List Open → Option ℕ
latest_branch [] = None
latest_branch (o ∷ st) = Some (branch o)

-- the row that opened the branch that a row ends, where it ends one
abbrev pub ended : Row → List Open → Option ℕ
ended Idle st = None
ended (PutConstant target constant) st = None
ended (SlotWithConstant op target first constant) st = None
ended (TwoSlots op target first second) st = None
ended (If guard) st = None
ended Else st = latest_branch st
ended (While guard) st = None
ended End st = latest_branch st

-- a method that opens a block answers as `opened` does and leaves what it leaves; where it refuses nothing changes
abbrev pub Opening : Open → ℕ → List Open → Result (Option ℕ) RowFault → List Open → Type 0
Opening o i st (Ok x) after = (opened o i st ≡ Ok after) × (x ≡ None)
Opening o i st (Err f) after = (opened o i st ≡ Err f) × (after ≡ st)

-- a method that takes in a row, likewise
abbrev pub Entering : Row → ℕ → List Open → Result (Option ℕ) RowFault → List Open → Type 0
Entering r i st (Ok o) after = (entered r i st ≡ Ok after) × (o ≡ ended r st)
Entering r i st (Err f) after = (entered r i st ≡ Err f) × (after ≡ st)
