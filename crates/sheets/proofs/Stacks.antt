-- The open blocks, the latest first, as a vector holds them with the latest last. Assumes nothing.
use Rattle.std.proofs.Common.{◌≡◌, ◌-◌, ◌<◌, List, [], ◌∷◌, ◌++◌, reverse, length, set, sym, ap, ◌∙◌, ap₂, arith, length-append}
use Rattle.std.proofs.Math.Seq.{set-append_seam}
use Rattle.std.proofs.lemmas.List.{reverse-append, reverse-reverse}
use Rattle.sheets.specs.Walk.{beneath}
use Rattle.sheets.specs.declared.walker.Open.{Open}

latest_set : (st : List Open) (o x : Open) → reverse (set (reverse st ++ (o ∷ [])) (length (reverse st)) x) ≡ x ∷ st
latest_set st o x =
    ap reverse (set-append_seam (reverse st) o [] x)
    ∙ (reverse-append (reverse st) (x ∷ []) ∙ ap (λ (os : List Open). x ∷ os) (reverse-reverse st))

-- the latest is replaced
pub latest_replaced : (xs : List Open) (x : Open) → 0 < length (reverse xs) → reverse (set xs (length xs - 1) x) ≡ x ∷ beneath (reverse xs)
latest_replaced xs x some = go (reverse xs) (sym (reverse-reverse xs)) some
  where
    go : (st : List Open) → xs ≡ reverse st → 0 < length st → reverse (set xs (length xs - 1) x) ≡ x ∷ beneath st
    go [] e h = absurd (omega arith)
    go (o ∷ st) e h =
        let parts : xs ≡ reverse st ++ (o ∷ []) = e ∙ reverse-append (o ∷ []) st in
        ap₂ (λ ys n. reverse (set ys n x)) parts (omega (arith, ap length parts, length-append (reverse st) (o ∷ []))) ∙ latest_set st o x
