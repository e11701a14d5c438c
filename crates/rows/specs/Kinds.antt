-- The eight kinds of rows, and what each byte of a row is to each kind. Assumes nothing.
use Rattle.std.specs.Prelude.{◌≡◌, ℕ, ◌<◌, Bool, true, false, List, [], ◌∷◌, Result, MatchResult, slice_index_or}
use Rattle.rows.specs.declared.fault.RowReason.{RowReason}
use Rattle.rows.specs.declared.fault.RowReason.TheVariants as refused
use Rattle.rows.specs.declared.kind.RowKind.{RowKind}
use Rattle.rows.specs.declared.kind.RowKind.TheVariants.{Idle, PutConstant, SlotWithConstant, TwoSlots, If, Else, While, End}
use Rattle.rows.specs.declared.kind.Use.{Use}
use Rattle.rows.specs.declared.kind.Use.TheVariants.{Unused, Kind, Operation, Slot, Const}

-- by kind: idle, put a constant, slot with constant, two slots, if, else, while, end
abbrev pub kinds : List (List Use)
kinds =
    (Kind ∷ Unused ∷ Unused ∷ Unused ∷ Unused ∷ Unused ∷ Unused ∷ Unused ∷ [])
    ∷ (Kind ∷ Unused ∷ Slot ∷ Unused ∷ Const ∷ Const ∷ Const ∷ Const ∷ [])
    ∷ (Kind ∷ Operation ∷ Slot ∷ Slot ∷ Const ∷ Const ∷ Const ∷ Const ∷ [])
    ∷ (Kind ∷ Operation ∷ Slot ∷ Slot ∷ Unused ∷ Unused ∷ Unused ∷ Slot ∷ [])
    ∷ (Kind ∷ Unused ∷ Unused ∷ Slot ∷ Unused ∷ Unused ∷ Unused ∷ Unused ∷ [])
    ∷ (Kind ∷ Unused ∷ Unused ∷ Unused ∷ Unused ∷ Unused ∷ Unused ∷ Unused ∷ [])
    ∷ (Kind ∷ Unused ∷ Unused ∷ Slot ∷ Unused ∷ Unused ∷ Unused ∷ Unused ∷ [])
    ∷ (Kind ∷ Unused ∷ Unused ∷ Unused ∷ Unused ∷ Unused ∷ Unused ∷ Unused ∷ [])
    ∷ []

-- the place of a kind in that order, from 0
abbrev pub kind_number : RowKind → ℕ
kind_number Idle = 0
kind_number PutConstant = 1
kind_number SlotWithConstant = 2
kind_number TwoSlots = 3
kind_number If = 4
kind_number Else = 5
kind_number While = 6
kind_number End = 7

-- a number is converted to the kind that has it, and past the last kind it is refused
abbrev pub Decodes : ℕ → Result RowKind RowReason → Type 0
Decodes number converted = MatchResult converted (λ kind. kind_number kind ≡ number) (λ reason. (reason ≡ refused.Kind) × (7 < number))

-- what a byte, by its number, is to a kind: nothing past the last kind or the last byte
abbrev pub uses : ℕ → ℕ → Use
uses kind byte = slice_index_or (slice_index_or kinds kind []) byte Unused

abbrev pub is_operation : Use → Bool
is_operation Unused = false
is_operation Kind = false
is_operation Operation = true
is_operation Slot = false
is_operation Const = false

abbrev pub is_slot : Use → Bool
is_slot Unused = false
is_slot Kind = false
is_slot Operation = false
is_slot Slot = true
is_slot Const = false

abbrev pub is_unused : Use → Bool
is_unused Unused = true
is_unused Kind = false
is_unused Operation = false
is_unused Slot = false
is_unused Const = false
