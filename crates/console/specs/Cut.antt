-- What the lines of an input are, in terms of its bytes. Assumes nothing.
use Rattle.std.specs.Prelude.{◌≡◌, ℕ, ◌<◌, true, false, List, [], ◌∷◌, ◌++◌, length, ◌≢◌}
use Rattle.std.specs.List.{flat_map, AllByRecursion}
use Rattle.console.specs.Lines.{Line, lines_of, as_read, leads, leading, call_lines}

-- only the last line may be without its byte 10, and is not empty then
pub data Lined : List Line → Type 0 where
  none : Lined []
  not_ended : {bytes : List ℕ} → 0 < length bytes → Lined (record { bytes = bytes; ended = false } ∷ [])
  one_more : {bytes : List ℕ} {lines : List Line} → Lined lines → Lined (record { bytes = bytes; ended = true } ∷ lines)

abbrev pub NoEndWithin : Line → Type 0
NoEndWithin line = AllByRecursion (λ b. b ≢ 10) line.bytes

abbrev pub FirstDoesNotLead : List Line → Type 0
FirstDoesNotLead [] = Unit {0}
FirstDoesNotLead (line ∷ lines) = leads line.bytes ≡ false

pub record CutUp (input : List ℕ) : Type 0 where
  -- the lines of an input, as they are read, are the input
  pub whole : flat_map as_read (lines_of input) ≡ input
  pub lined : Lined (lines_of input)
  pub no_end_within : AllByRecursion NoEndWithin (lines_of input)
  -- the lines before the first that does not begin with P or S, and the call lines
  pub parts : leading (lines_of input) ++ call_lines input ≡ lines_of input
  pub all_lead : AllByRecursion (λ line. leads line.bytes ≡ true) (leading (lines_of input))
  pub first_call : FirstDoesNotLead (call_lines input)

abbrev pub LinesStand : Type 0
LinesStand = (input : List ℕ) → CutUp input
