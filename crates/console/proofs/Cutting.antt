-- What slice patterns take from the front. Assumes nothing.
use Rattle.std.proofs.Common.{◌≡◌, ℕ, ◌-◌, ◌<◌, List, [], ◌∷◌, length, get_or, take, drop, sym, ap, arith}
use Rattle.std.proofs.lemmas.List.{take_rest}

pub one_and_rest : (xs : List ℕ) → 0 < length xs → xs ≡ get_or xs 0 0 ∷ take (length xs - 1) (drop 1 xs)
one_and_rest [] l = absurd (omega (arith, l))
one_and_rest (x ∷ xs) l = ap (λ (ys : List ℕ). x ∷ ys) (sym (take_rest (x ∷ xs) 1))

pub two_and_rest : (xs : List ℕ) → 1 < length xs → xs ≡ get_or xs 0 0 ∷ get_or xs 1 0 ∷ take (length xs - 2) (drop 2 xs)
two_and_rest [] l = absurd (omega (arith, l))
two_and_rest (x ∷ []) l = absurd (omega (arith, l))
two_and_rest (x ∷ y ∷ xs) l = ap (λ (ys : List ℕ). x ∷ y ∷ ys) (sym (take_rest (x ∷ y ∷ xs) 2))
