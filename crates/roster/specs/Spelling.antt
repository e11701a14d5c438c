-- How a roster's lines are spelled, and where a line leaves the form. Assumes nothing.
use Rattle.std.specs.Prelude.{◌≡◌, ℕ, ◌≤◌, List, [], ◌∷◌, ◌++◌, length, take, slice_index_or}
use Rattle.std.specs.List.{flat_map}
use Rattle.numerals.specs.Decimal.{written}

pub data Kind : Type 0 where
  person : Kind
  slot : Kind

-- what a line says: that the person or the slot of this number has this label
pub record Entry : Type 0 where
  pub kind : Kind
  pub number : ℕ
  pub label : ℕ

-- P or S
abbrev pub letter : Kind → ℕ
letter person = 80
letter slot = 83

-- a letter, a comma, a number, a comma, a number and byte 10
abbrev pub spell : Entry → List ℕ
spell e = letter e.kind ∷ 44 ∷ (written e.number ++ (44 ∷ (written e.label ++ (10 ∷ []))))

-- one line after the other
abbrev pub spelled : List Entry → List ℕ
spelled es = flat_map spell es

-- some line of the form has the byte b after `front`
abbrev pub May : List ℕ → ℕ → Type 0
May front b = (e : Entry) × (more : List ℕ) × (spell e ≡ front ++ (b ∷ more))

-- The first k bytes of `rest` begin a line of the form and do not end it, and no line of the form has after them the
-- byte that is there. The end of the text counts as a byte, 256, that no line has.
pub record FaultAt (rest : List ℕ) (k : ℕ) : Type 0 where
  pub within : k ≤ length rest
  pub before : (b : ℕ) × May (take k rest) b
  pub here : May (take k rest) (slice_index_or rest k 256) → ⊥
