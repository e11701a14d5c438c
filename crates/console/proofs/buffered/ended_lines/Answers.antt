use Rattle.std.proofs.Common.{◌≡◌, ℕ, ◌+◌, ◌^◌, ◌%◌, List, [], ◌∷◌, ◌++◌, cond, ◌==◌, zero-add, refl, ap, ◌∙◌, subst, arith, rules}
use Rattle.std.proofs.lemmas.Fn.{fold_over, slice_gives, fronts}
use Rattle.std.proofs.lemmas.List.Sums.{count_by-le-length, sum_by-append}
use Rattle.std.proofs.Math.Nat.{mod-add-mod}
use Rattle.console.specs.Writing.{ends_in}
use Rattle.console.proofs.buffered.ended_lines.Goals as goal

-- one byte more
ends_more : (ys : List ℕ) (b : ℕ) → ends_in (ys ++ (b ∷ [])) ≡ ends_in ys + cond (b == 10) 1 0
ends_more ys b = sum_by-append (λ b. cond (b == 10) 1 0) ys (b ∷ []) ∙ ap (λ n. ends_in ys + n) (zero-add (cond (b == 10) 1 0))

pub returns : goal.returns
returns c =
    let text = c.args.text.now in
    let all = fold_over fronts (λ y. y.now) _ (λ ys ended. ended ≡ ends_in ys % 2 ^ 64) _
    (λ ys ended byte next f' so_far k.
    let one : next ≡ (ended + cond (byte.now == 10) 1 0) % 2 ^ 64 = search rules in
    let more = ends_more ys byte.now in
    (rw (more, one, so_far) (mod-add-mod _ _ _), search rules))
    _ _ _ _ (slice_gives c.iter.result) refl c.fold.ensures.ran in
    let whole = subst (λ xs. c.fold.result ≡ ends_in xs % 2 ^ 64) c.iter.ensures.rest all in
    let few = count_by-le-length (λ b. b == 10) text in
    let size = c.iter.ensures.bound in
    (omega arith, omega arith)
