-- The judge as its code goes about it: what a row depends on is joined into one label, and the control labels outside the open blocks are
-- kept on a stack. Private functions are held to these words, and the public ones to those of `Judging`. Assumes nothing.
use Rattle.std.specs.Prelude.{ℕ, ◌+◌, ◌-◌, ◌<◌, Bool, false, List, [], ◌∷◌, length, reverse, Some, None, Option}
use Rattle.labels.specs.Laws.{Code}
use Rattle.rows.specs.declared.row.Row.{Row}
use Rattle.rows.specs.declared.row.Row.TheVariants.{Idle, PutConstant, SlotWithConstant, TwoSlots, If, Else, While, End}
use Rattle.judging.specs.Judging.{inside}
use Rattle.judging.specs.declared.control.Control.{Control}

-- the join of two labels, where there are two
abbrev pub joined : (ℕ → ℕ → ℕ) → Option ℕ → Option ℕ → Option ℕ
joined joins None b = None
joined joins (Some a) None = None
joined joins (Some a) (Some b) = Some (joins a b)

-- the first label is at or below the second, and there are two
abbrev pub flowing : (ℕ → ℕ → Bool) → Option ℕ → Option ℕ → Bool
flowing flows None b = false
flowing flows (Some a) None = false
flowing flows (Some a) (Some b) = flows a b

-- a label is a code
abbrev pub CodedLabel : Option ℕ → Type 0
CodedLabel None = Unit {0}
CodedLabel (Some a) = Code a

-- the control labels, the present one first
abbrev pub controls : Control → List ℕ
controls control = control.label ∷ reverse control.outside.items

-- how many blocks are open
abbrev pub depth : Control → ℕ
depth control = length control.outside.items

-- a block is opened only where less than 16 are, and closed only where one is
abbrev pub Room : ℕ → Row → Type 0
Room depth Idle = Unit {0}
Room depth (PutConstant target k) = Unit {0}
Room depth (SlotWithConstant op target first k) = Unit {0}
Room depth (TwoSlots op target first second) = Unit {0}
Room depth (If guard) = depth < 16
Room depth Else = Unit {0}
Room depth (While guard) = depth < 16
Room depth End = 0 < depth

-- how many blocks are open after a row
abbrev pub deepened : ℕ → Row → ℕ
deepened depth Idle = depth
deepened depth (PutConstant target k) = depth
deepened depth (SlotWithConstant op target first k) = depth
deepened depth (TwoSlots op target first second) = depth
deepened depth (If guard) = depth + 1
deepened depth Else = depth
deepened depth (While guard) = depth + 1
deepened depth End = depth - 1

module _ (joins : ℕ → ℕ → ℕ) (Γ : ℕ → Option ℕ) where
  abbrev pub entered : ℕ → List ℕ → List ℕ
  entered guard [] = []
  entered guard (γ ∷ outer) = inside joins Γ γ guard ∷ γ ∷ outer

  abbrev pub left : List ℕ → List ℕ
  left [] = []
  left (γ ∷ outer) = outer

  -- the control labels after a row
  abbrev pub followed : Row → List ℕ → List ℕ
  followed Idle γs = γs
  followed (PutConstant target k) γs = γs
  followed (SlotWithConstant op target first k) γs = γs
  followed (TwoSlots op target first second) γs = γs
  followed (If guard) γs = entered guard γs
  followed Else γs = γs
  followed (While guard) γs = entered guard γs
  followed End γs = left γs
