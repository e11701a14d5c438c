-- Where each row of a sheet leads: to the else or end that it is paired with. Assumes nothing.
use Rattle.std.specs.Prelude.{◌≡◌, ℕ, zero, suc, ◌+◌, ◌<◌, List, [], ◌∷◌, length, drop, Some, None, Option, slice_index, slice_index_or, slice_set}
use Rattle.rows.specs.declared.row.Row.{Row}
use Rattle.rows.specs.declared.row.Row.TheVariants.{Idle, PutConstant, SlotWithConstant, TwoSlots, If, Else, While, End}

-- how many rows stand before the else or end of the innermost block, with `depth` more blocks open inside it
abbrev pub closing : ℕ → List Row → ℕ
closing depth [] = 0
closing depth (Idle ∷ rows) = suc (closing depth rows)
closing depth (PutConstant target constant ∷ rows) = suc (closing depth rows)
closing depth (SlotWithConstant op target first constant ∷ rows) = suc (closing depth rows)
closing depth (TwoSlots op target first second ∷ rows) = suc (closing depth rows)
closing depth (If guard ∷ rows) = suc (closing (suc depth) rows)
closing depth (While guard ∷ rows) = suc (closing (suc depth) rows)
closing zero (Else ∷ rows) = 0
closing (suc depth) (Else ∷ rows) = suc (closing (suc depth) rows)
closing zero (End ∷ rows) = 0
closing (suc depth) (End ∷ rows) = suc (closing depth rows)

-- where the row at i leads, with the rows after it; a row that begins no branch leads to itself
abbrev pub partner : Row → ℕ → List Row → ℕ
partner Idle i rest = i
partner (PutConstant target constant) i rest = i
partner (SlotWithConstant op target first constant) i rest = i
partner (TwoSlots op target first second) i rest = i
partner (If guard) i rest = i + 1 + closing 0 rest
partner Else i rest = i + 1 + closing 0 rest
partner (While guard) i rest = i + 1 + closing 0 rest
partner End i rest = i

-- each row's jump is where it leads
abbrev pub Leads : List Row → List ℕ → Type 0
Leads rows jumps = (i : ℕ) → i < length rows → slice_index jumps i ≡ partner (slice_index_or rows i Idle) i (drop (i + 1) rows)

-- The jumps once row i is read: it leads to itself, and the row that opened the branch that it ends, if it ends one, leads to it.
abbrev pub noted : List ℕ → ℕ → Option ℕ → List ℕ
noted jumps i None = slice_set jumps i i
noted jumps i (Some k) = slice_set (slice_set jumps k i) i i
