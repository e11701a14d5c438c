-- Texts written one after the other into a buffer. Assumes nothing.
use Rattle.std.proofs.Common.{◌≡◌, ℕ, ◌+◌, ◌-◌, ◌≤◌, min, Bool, true, false, leb, List, ◌++◌, length, take, drop, sym, refl, ap, ◌∙◌, arith}
use native.Mathlib.Nat.{sub-zero}
use Rattle.std.proofs.lemmas.List.{append_assoc, length-append, drop-drop, take-append-drop, take_all}
use Rattle.std.proofs.lemmas.Bool.{leb-true, leb-false}
use Rattle.console.specs.Writing.{Wrote}

-- what stands after a text stays where more is written from its end on
pub untouched : (before between : List ℕ) (mid to k : ℕ) → to ≡ mid + k → drop mid between ≡ drop mid before → drop to between ≡ drop to before
untouched before between mid to k e same =
    ap (λ (n : ℕ). drop n between) e ∙ (sym (drop-drop k mid between) ∙ (ap (drop k) same ∙ (drop-drop k mid before ∙ ap (λ (n : ℕ). drop n before) (sym e))))

-- one text and then another
pub in_turn : {before between after a b : List ℕ} {at mid to : ℕ} → Wrote before at a mid between → Wrote between mid b to after → Wrote before at (a ++ b) to after
in_turn {before} {between} {after} {a} {b} {at} {mid} {to} first second =
    record {
      ends = rw length-append (omega (arith, first.ends, second.ends));
      front = second.front ∙ (ap (λ (xs : List ℕ). xs ++ b) first.front ∙ append_assoc (take at before) a b);
      back = second.back ∙ untouched before between mid to (length b) second.ends first.back;
    }

-- the same of an equal text
pub as_text : {before after a b : List ℕ} {at to : ℕ} → a ≡ b → Wrote before at a to after → Wrote before at b to after
as_text {before} {at = at} e w =
    record { ends = w.ends ∙ ap (λ (xs : List ℕ). at + length xs) e; front = w.front ∙ ap (λ (xs : List ℕ). take at before ++ xs) e; back = w.back }

-- a buffer with a text from its beginning on
pub from_start : {before text after : List ℕ} {to : ℕ} → Wrote before 0 text to after → (to ≡ length text) × (after ≡ text ++ drop (length text) before)
from_start {before} {text} {after} {to} w =
    let e : to ≡ length text = omega (arith, w.ends) in
    (e, sym (take-append-drop to after) ∙ (ap (λ (xs : List ℕ). xs ++ drop to after) w.front ∙ (ap (λ (xs : List ℕ). text ++ xs) w.back ∙ ap (λ (n : ℕ). text ++ drop n before) e)))

pub stays_within : {before text after : List ℕ} {to : ℕ} → Wrote before 0 text to after → to ≤ length after
stays_within {before} {text} {after} {to} w =
    let both = from_start w in
    let whole = ap length both.1 ∙ length-append text (drop (length text) before) in
    omega arith

-- the first n, or as many as there are
pub first_of : (xs : List ℕ) (k n : ℕ) → k ≡ min (length xs) n → take (k - 0) xs ≡ take n xs
first_of xs k n e = rw sub-zero (go (leb (length xs) n) refl)
  where
    go : (z : Bool) → leb (length xs) n ≡ z → take k xs ≡ take n xs
    go true h = let few = leb-true (length xs) n h in take_all k xs (omega arith) ∙ sym (take_all n xs few)
    go false h = let many = leb-false (length xs) n h in ap (λ (m : ℕ). take m xs) (omega arith)
