-- Structured programs, and the rows that list them. Assumes nothing.
use Rattle.std.specs.Prelude.{◌≡◌, ℕ, suc, max, List, [], ◌∷◌, ◌++◌, ℤ}
use Rattle.operations.specs.declared.operation.Operation.{Operation}
use Rattle.rows.specs.declared.row.Row.{Row}
use Rattle.rows.specs.declared.row.Row.TheVariants.{Idle, PutConstant, SlotWithConstant, TwoSlots, If, Else, While, End}

-- what is put into a slot: a constant, or an operation of a slot with a constant or with a second slot
pub data Expression : Type 0 where
  constant : (k : ℤ) → Expression
  with_constant : (op : Operation) (first : ℕ) (k : ℤ) → Expression
  two_slots : (op : Operation) (first second : ℕ) → Expression

-- a statement with no block in it
pub data Simple : Type 0 where
  skip : Simple
  assign : (target : ℕ) (e : Expression) → Simple

-- A block is a sequence of statements: it is empty, or a first statement with the rest of the sequence after it.
-- An if without an else and an if with an empty else are two statements, since they are listed differently.
pub data Block : Type 0 where
  nil : Block
  simple : (s : Simple) (rest : Block) → Block
  when : (guard : ℕ) (body rest : Block) → Block
  either : (guard : ℕ) (first second rest : Block) → Block
  while : (guard : ℕ) (body rest : Block) → Block

abbrev pub set_row : ℕ → Expression → Row
set_row i (constant k) = PutConstant i k
set_row i (with_constant op first k) = SlotWithConstant op i first k
set_row i (two_slots op first second) = TwoSlots op i first second

abbrev pub simple_row : Simple → Row
simple_row skip = Idle
simple_row (assign i e) = set_row i e

-- the rows that list a block
abbrev pub listing : Block → List Row
listing nil = []
listing (simple s rest) = simple_row s ∷ listing rest
listing (when g a rest) = If g ∷ (listing a ++ (End ∷ listing rest))
listing (either g a b rest) = If g ∷ (listing a ++ (Else ∷ (listing b ++ (End ∷ listing rest))))
listing (while g a rest) = While g ∷ (listing a ++ (End ∷ listing rest))

-- no two blocks have one listing
abbrev pub ListingsAreUnique : Type 0
ListingsAreUnique = (a b : Block) → listing a ≡ listing b → a ≡ b

-- how many blocks are open at once, at most
abbrev pub nesting : Block → ℕ
nesting nil = 0
nesting (simple s rest) = nesting rest
nesting (when g a rest) = max (suc (nesting a)) (nesting rest)
nesting (either g a b rest) = max (max (suc (nesting a)) (suc (nesting b))) (nesting rest)
nesting (while g a rest) = max (suc (nesting a)) (nesting rest)

-- one block after another
infixr 60 ◌⨾◌
abbrev pub ◌⨾◌ : Block → Block → Block
nil ⨾ c = c
simple s rest ⨾ c = simple s (rest ⨾ c)
when g a rest ⨾ c = when g a (rest ⨾ c)
either g a b rest ⨾ c = either g a b (rest ⨾ c)
while g a rest ⨾ c = while g a (rest ⨾ c)
