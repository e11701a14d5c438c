-- The line that spells a call, and what a line says. Assumes nothing.
use Rattle.std.specs.Prelude.{◌≡◌, ℕ, ◌<◌, List, ◌∷◌, ◌++◌, Some, None, Option, FitsSigned, ◌≢◌}
use Rattle.std.specs.Int.{w32}
use Rattle.std.specs.List.{AllByRecursion}
use Rattle.numerals.specs.Decimal.{written}
use Rattle.noninterference.specs.Monitor.{Call, lay, view, run}
use Rattle.console.specs.Fields.{written_value, hexadecimal}

-- fields with commas between them: L,person,slot,value or V,person,slot or R,person,turns,sheet
abbrev pub spelled : Call → List ℕ
spelled (lay n i v) = 76 ∷ 44 ∷ (written n ++ (44 ∷ (written i ++ (44 ∷ written_value v))))
spelled (view n i) = 86 ∷ 44 ∷ (written n ++ (44 ∷ written i))
spelled (run n sheet turns) = 82 ∷ 44 ∷ (written n ++ (44 ∷ (written turns ++ (44 ∷ hexadecimal sheet))))

-- people and slots go by bytes, turns by 16 bits; values are those of 32 bits with a sign
abbrev pub InRange : Call → Type 0
InRange (lay n i v) = (n < 256) × (i < 256) × FitsSigned w32 v
InRange (view n i) = (n < 256) × (i < 256)
InRange (run n sheet turns) = (n < 256) × (turns < 65536) × AllByRecursion (λ b. b < 256) sheet

-- a line says the call that it spells, and is faulty where it spells none
pub data Says (line : List ℕ) : Option Call → Type 0 where
  call : {c : Call} → InRange c → line ≡ spelled c → Says line (Some c)
  faulty : ((c : Call) → InRange c → line ≢ spelled c) → Says line None
