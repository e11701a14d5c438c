-- Writing into a buffer: how much room an input asks for, and what a buffer holds then. Assumes nothing.
use Rattle.std.specs.Prelude.{◌≡◌, ℕ, ◌+◌, ◌*◌, cond, List, ◌++◌, length, take, drop, count_by, Some, None, Option, ◌==◌, nat_le}

-- how many bytes 10 there are
abbrev pub ends_in : List ℕ → ℕ
ends_in text = count_by (λ b. b == 10) text

-- The room for what is printed for an input: 30 bytes for each line that is ended, and 30 more. No printed line is longer.
abbrev pub room_for : List ℕ → ℕ
room_for input = 30 * (ends_in input + 1)

-- A text from `at` on in a buffer, up to `to`: what stands before it and after it stays.
pub record Wrote (before : List ℕ) (at : ℕ) (text : List ℕ) (to : ℕ) (after : List ℕ) : Type 0 where
  pub ends : to ≡ at + length text
  pub front : take to after ≡ take at before ++ text
  pub back : drop to after ≡ drop to before

-- The answer, and the buffer then: the text's length, and the text with the later bytes untouched; without the room, nothing is written.
abbrev pub placed : ℕ → List ℕ → List ℕ → Option ℕ × List ℕ
placed room text buffer = cond (nat_le room (length buffer)) (Some (length text), text ++ drop (length text) buffer) (None, buffer)
