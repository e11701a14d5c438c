-- The fields of a text, with a byte of one kind between one and the next. Assumes nothing.
use Rattle.std.specs.Prelude.{ℕ, cond, List, [], ◌∷◌, Some, None, Option, ◌==◌}
use Rattle.std.specs.Option.{option_map}

-- what stands before the first byte that is c, and what stands after it
abbrev pub cut_at : ℕ → List ℕ → Option (List ℕ × List ℕ)
cut_at c [] = None
cut_at c (b ∷ bs) = cond (b == c) (Some ([], bs)) (option_map (λ parts. (b ∷ parts.0, parts.1)) (cut_at c bs))

-- the bytes before the first comma, and those after it
abbrev pub cut : List ℕ → Option (List ℕ × List ℕ)
cut = cut_at 44
