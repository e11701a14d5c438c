-- The block that rows list, found from the last row to the first: the inverse of `listing`. Assumes nothing.
use Rattle.std.specs.Prelude.{◌≡◌, ◌↔◌, List, [], ◌∷◌, Some, None, Option}
use Rattle.rows.specs.declared.row.Row.{Row}
use Rattle.rows.specs.declared.row.Row.TheVariants.{Idle, PutConstant, SlotWithConstant, TwoSlots, If, Else, While, End}
use Rattle.sheets.specs.Programs.{constant, with_constant, two_slots, skip, assign, Block, nil, simple, when, either, while, listing}

-- what stands after the branch that is being read: an end and the rest of the block around it, or an else before them
pub data Pending : Type 0 where
  after_end : (rest : Block) → Pending
  after_else : (second rest : Block) → Pending

-- what is read so far: a block from here on to the end of the branch, and the branches that are not begun yet, the innermost first
abbrev pub State : Type 0
State = Block × List Pending

-- one row more, in front
abbrev pub with_row : Row → Block → List Pending → Option State
with_row Idle b st = Some (simple skip b, st)
with_row (PutConstant i k) b st = Some (simple (assign i (constant k)) b, st)
with_row (SlotWithConstant op i first k) b st = Some (simple (assign i (with_constant op first k)) b, st)
with_row (TwoSlots op i first second) b st = Some (simple (assign i (two_slots op first second)) b, st)
with_row (If g) b [] = None
with_row (If g) b (after_end rest ∷ st) = Some (when g b rest, st)
with_row (If g) b (after_else second rest ∷ st) = Some (either g b second rest, st)
with_row Else b [] = None
with_row Else b (after_end rest ∷ st) = Some (nil, after_else b rest ∷ st)
with_row Else b (after_else second rest ∷ st) = None
with_row (While g) b [] = None
with_row (While g) b (after_end rest ∷ st) = Some (while g b rest, st)
with_row (While g) b (after_else second rest ∷ st) = None
with_row End b st = Some (nil, after_end b ∷ st)

abbrev pub in_front : Row → Option State → Option State
in_front r None = None
in_front r (Some s) = with_row r s.0 s.1

abbrev pub state_of : List Row → Option State
state_of [] = Some (nil, [])
state_of (r ∷ rows) = in_front r (state_of rows)

abbrev pub whole_of : Block → List Pending → Option Block
whole_of b [] = Some b
whole_of b (branch ∷ st) = None

abbrev pub whole : Option State → Option Block
whole None = None
whole (Some s) = whole_of s.0 s.1

-- the block that the rows list, if they list one
abbrev pub block_of : List Row → Option Block
block_of rows = whole (state_of rows)

abbrev pub Parsing : Type 0
Parsing = (rows : List Row) (b : Block) → (block_of rows ≡ Some b) ↔ (listing b ≡ rows)
