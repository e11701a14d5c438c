-- How the input is cut into the roster and the call lines. Assumes nothing.
use Rattle.std.specs.Prelude.{ℕ, Bool, true, false, cond, ◌||◌, List, [], ◌∷◌, ◌++◌, take, ◌==◌}
use Rattle.std.specs.List.{flat_map}

-- what is read of an input: the first 65,536 bytes
abbrev pub read_of : List ℕ → List ℕ
read_of input = take 65536 input

-- the bytes of a line without its byte 10, and whether it has one
pub record Line : Type 0 where
  pub bytes : List ℕ
  pub ended : Bool

-- bytes at the end of the text with no byte 10 after them
abbrev pub last_line : List ℕ → List Line
last_line [] = []
last_line (b ∷ bs) = record { bytes = b ∷ bs; ended = false } ∷ []

-- the lines of a text, where `begun` are the bytes before it in its first line
abbrev pub lines_from : List ℕ → List ℕ → List Line
lines_from begun [] = last_line begun
lines_from begun (b ∷ bs) =
    cond (b == 10) (record { bytes = begun; ended = true } ∷ lines_from [] bs) (lines_from (begun ++ (b ∷ [])) bs)

abbrev pub lines_of : List ℕ → List Line
lines_of input = lines_from [] input

abbrev pub as_read : Line → List ℕ
as_read line = line.bytes ++ cond line.ended (10 ∷ []) []

-- a line of the roster begins with P or S
abbrev pub is_letter : ℕ → Bool
is_letter b = b == 80 || b == 83

abbrev pub leads : List ℕ → Bool
leads [] = false
leads (b ∷ bs) = is_letter b

-- the first lines that begin so, and the lines after them
abbrev pub leading : List Line → List Line
leading [] = []
leading (line ∷ lines) = cond (leads line.bytes) (line ∷ leading lines) []

abbrev pub after_leading : List Line → List Line
after_leading [] = []
after_leading (line ∷ lines) = cond (leads line.bytes) (after_leading lines) (line ∷ lines)

abbrev pub roster_part : List ℕ → List ℕ
roster_part input = flat_map as_read (leading (lines_of input))

abbrev pub call_lines : List ℕ → List Line
call_lines input = after_leading (lines_of input)
