-- The small blocks and monitors are as is said of them. Assumes nothing.
use Rattle.std.proofs.Common.{◌≡◌, ℕ, zero, suc, ◌≤◌, max, true, leb, List, [], ◌∷◌, ℤ, pos, nat_abs, Some, sym, refl, ap, ◌∙◌, subst, arith}
use mathlib.Core.Bool.{false≢true}
use Rattle.std.proofs.lemmas.Bool.Decides.{nat_tests}
use Rattle.labels.specs.Laws.{Lawful}
use Rattle.table.specs.Slots.{value_at}
use Rattle.sheets.specs.Programs.{Block}
use Rattle.running.specs.Running.{Outcome, done, cut, exec}
use Rattle.judging.specs.Typing.{Typed, reads_constant, reads_with_constant, reads_two_slots, typed_nil, typed_skip, typed_assign, typed_when, typed_either, typed_while}
use Rattle.noninterference.specs.Noninterference.{Codes, Agree, Alike, both_done, both_cut, Noninterfering}
use Rattle.noninterference.specs.Monitor.{Call, lay, view, run, Answer, viewed, ran}
use Rattle.noninterference.specs.Strike.{Sound, Untraced}
use Rattle.noninterference.specs.Examples.{two_labels, two_values, copies_up, every_rule, copies_down, branches, takes_turns, monitor_with, AnsweredAlike, Examples}
use Rattle.noninterference.proofs.Noninterference.{noninterference}

numbers : Lawful leb max 64
numbers = record {
  reflexive = λ a ca. grind (arith, nat_tests);
  transitive = λ a b c ca cb cc' f g. grind (arith, nat_tests);
  join_left = λ a b ca cb. grind (arith, nat_tests);
  join_right = λ a b ca cb. grind (arith, nat_tests);
  join_least = λ a b c ca cb cc' f g. grind (arith, nat_tests);
  bottom = λ a ca. grind (arith, nat_tests);
  join_fits = λ a b ca cb. omega arith;
  some_bits = omega arith;
  few_bits = omega arith;
}

at_most_five : (i l : ℕ) → two_labels i ≡ Some l → l ≤ 5
at_most_five zero l h = let e : 0 ≡ l = cc in omega arith
at_most_five (suc zero) l h = let e : 5 ≡ l = cc in omega arith
at_most_five (suc (suc i)) l h = absurd (let z : ◌≡◌ {A = ℕ} 0 1 = cc in omega arith)

codes : Codes two_labels
codes i l h = omega (arith, at_most_five i l h)

up_typed : (p : ℕ) → p ≤ 5 → Typed leb max two_labels p p copies_up
up_typed p h =
    typed_assign {l = 5} refl (let e : leb p 5 ≡ true = grind (arith, nat_tests) in e)
    (reads_two_slots {m = 0} {n = 0} refl refl refl refl) typed_nil

rules_typed : Typed leb max two_labels 0 0 every_rule
rules_typed = typed_while {l = 0} refl refl
    (typed_either {l = 5} refl
    (typed_assign {l = 5} refl refl reads_constant typed_nil)
    (typed_assign {l = 5} refl refl (reads_two_slots {m = 0} {n = 5} refl refl refl refl) typed_nil)
    (typed_when {l = 0} refl (typed_skip typed_nil)
    (typed_assign {l = 0} refl refl (reads_with_constant {m = 0} refl refl) typed_nil)))
    typed_nil

-- what is typed does not interfere, so what interferes is not typed
not_typed : {b : Block} → ¬ Noninterfering leb two_labels 0 b → ¬ Typed leb max two_labels 0 0 b
not_typed {b} n typed = n (noninterference leb max 64 numbers two_labels codes 0 (omega arith) b typed)

-- the slots differ in slot 1 alone
alike : Agree leb two_labels 0 (two_values (pos 0) (pos 0)) (two_values (pos 0) (pos 1))
alike = record { same_size = refl; same_seen = at }
  where
    at : (i l : ℕ) → two_labels i ≡ Some l → leb l 0 ≡ true → value_at (two_values (pos 0) (pos 0)) i ≡ value_at (two_values (pos 0) (pos 1)) i
    at zero l h f = refl
    at (suc zero) l h f = absurd (let e : 5 ≡ l = cc in false≢true (subst (λ x. leb x 0 ≡ true) (sym e) f))
    at (suc (suc i)) l h f = refl

-- what a runner sees of how a run ended: slot 0 and the turns left
abbrev seen : Outcome → ℤ × ℕ
seen (done s left) = (value_at s 0, left)
seen cut = (pos 0, 0)

same_seen : {o r : Outcome} → Alike leb two_labels 0 o r → seen o ≡ seen r
same_seen (both_done {left} e) = let q = e.same_seen 0 0 refl refl in cc
same_seen both_cut = refl

-- so a block interferes if the runner sees the two apart
interferes : (b : Block) (x y : ℤ × ℕ) → seen (exec b (two_values (pos 0) (pos 0)) 1) ≡ x → seen (exec b (two_values (pos 0) (pos 1)) 1) ≡ y →
    ¬ (x ≡ y) → ¬ Noninterfering leb two_labels 0 b
interferes b x y p q apart n = apart (sym p ∙ same_seen (n.told _ _ 1 alike) ∙ q)

-- slot 0 ends as 0 or as 1
values_apart : ¬ (◌≡◌ {A = ℤ × ℕ} (pos 0, 1) (pos 1, 1))
values_apart q = let z : ◌≡◌ {A = ℕ} 0 1 = ap (λ (x : ℤ × ℕ). nat_abs x.0) q in omega arith

-- the turn is left, or it is taken
turns_apart : ¬ (◌≡◌ {A = ℤ × ℕ} (pos 0, 1) (pos 0, 0))
turns_apart q = let z : ◌≡◌ {A = ℕ} 1 0 = ap (λ (x : ℤ × ℕ). x.1) q in omega arith

down_interferes : ¬ Noninterfering leb two_labels 0 copies_down
down_interferes = interferes copies_down _ _ refl refl values_apart

branch_interferes : ¬ Noninterfering leb two_labels 0 branches
branch_interferes = interferes branches _ _ refl refl values_apart

-- never joined, the control label inside the if is still the runner's
branch_unjoined : Typed leb (λ γ l. γ) two_labels 0 0 branches
branch_unjoined = typed_when {l = 5} refl (typed_assign {l = 0} refl refl reads_constant typed_nil) typed_nil

turns_interfere : ¬ Noninterfering leb two_labels 0 takes_turns
turns_interfere = interferes takes_turns _ _ refl refl turns_apart

up_sound : Sound (monitor_with copies_up)
up_sound = record {
  lawful = numbers;
  people_codes = codes;
  slot_codes = codes;
  checked = λ n p sheet b h e.
      let is : copies_up ≡ b = cc in
      subst (λ (x : Block). Typed leb max two_labels p p x) is (up_typed p (at_most_five n p h));
}

-- person 1 lays 7 into slot 1, person 0 runs the sheet and views slot 0
abbrev calls : List Call
calls = lay 1 1 (pos 7) ∷ run 0 [] 0 ∷ view 0 0 ∷ []

differ : (replies : List Answer) → replies ≡ ran 0 ∷ viewed (pos 7) ∷ [] → replies ≡ ran 0 ∷ viewed (pos 0) ∷ [] → ⊥
differ replies p q = let z : ◌≡◌ {A = ℕ} 7 0 = cc in omega arith

-- person 0 is answered with 7, and without that first call with 0
down_told : ¬ AnsweredAlike (monitor_with copies_down) (two_values (pos 0) (pos 0))
down_told alike = differ _ refl (alike 0 (omega arith) calls)

down_traced : ¬ Untraced (monitor_with copies_down) (two_values (pos 0) (pos 0))
down_traced untraced = down_told untraced.answered

pub examples : Examples
examples = record {
  up_typed = up_typed 0 (omega arith);
  rules_typed = rules_typed;
  down_interferes = down_interferes;
  down_not_typed = not_typed down_interferes;
  branch_interferes = branch_interferes;
  branch_not_typed = not_typed branch_interferes;
  branch_unjoined = branch_unjoined;
  turns_interfere = turns_interfere;
  turns_not_typed = not_typed turns_interfere;
  up_sound = up_sound;
  down_traced = down_traced;
  down_told = down_told;
}
