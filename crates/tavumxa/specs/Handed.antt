-- An answer that there may be none of, as C is handed it: whether there is one, and the number, which else stays what it was. Assumes nothing.
use Rattle.std.specs.Prelude.{ℕ, Bool, true, false, List, Some, None, Option}

abbrev pub handed_as : ℕ → Option ℕ → List ℕ → Bool × ℕ × List ℕ
handed_as before None bytes = (false, before, bytes)
handed_as before (Some n) bytes = (true, n, bytes)

-- with the bytes of the buffer
abbrev pub handed : ℕ → Option ℕ × List ℕ → Bool × ℕ × List ℕ
handed before answer = handed_as before answer.0 answer.1
