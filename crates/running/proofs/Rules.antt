-- Running agrees with its rules. Assumes nothing.
use Rattle.std.proofs.Common.{◌≡◌, ℕ, zero, suc, ◌<◌, ◌≤◌, Bool, true, false, cond, ◌≢◌, List, ℤ, pos, negsuc, sym, refl, ap, ◌∙◌, subst, le_refl, arith}
use Rattle.table.specs.declared.table.Slot.{Slot}
use Rattle.table.specs.Slots.{value_at, put}
use Rattle.sheets.specs.Programs.{skip, assign, Block, nil, simple, when, either, while}
use Rattle.running.specs.Running.{Outcome, done, cut, value_of, is_nonzero, holds, and_then, take_turn, exec}
use Rattle.running.specs.Laws.{Kept}
use Rattle.running.specs.BigStep.{Runs, ended, idled, assigned, if_passed, if_run, if_cut, first_run, first_cut, second_run, second_cut, while_passed, while_out_of_turns, while_turned, while_cut, RulesAgree}
use Rattle.running.proofs.Keeping.{EndsSo, weaker, kept}
use Rattle.running.proofs.Turning.{loops_unfold}

nonzero : (v : ℤ) → v ≢ pos 0 → is_nonzero v ≡ true
nonzero (pos zero) h = absurd (h refl)
nonzero (pos (suc n)) h = refl
nonzero (negsuc n) h = refl

not_zero : (v : ℤ) → is_nonzero v ≡ true → v ≢ pos 0
not_zero v h e = let z : ◌≡◌ {A = ℕ} 0 1 = cc (h, ap is_nonzero e) in absurd (omega arith)

is_zero : (v : ℤ) → is_nonzero v ≡ false → v ≡ pos 0
is_zero (pos zero) h = refl
is_zero (pos (suc n)) h = cc
is_zero (negsuc n) h = cc

-- From the rules to what running gives.
followed : (p : Outcome) (f : List Slot → ℕ → Outcome) (m : List Slot) (u : ℕ) (o : Outcome) → p ≡ done m u → f m u ≡ o → and_then p f ≡ o
followed p f m u o e h = ap (λ (x : Outcome). and_then x f) e ∙ h

cut_short : (p : Outcome) (f : List Slot → ℕ → Outcome) → p ≡ cut → and_then p f ≡ cut
cut_short p f e = ap (λ (x : Outcome). and_then x f) e

-- the choice that a guard makes
chooses : (p q : Outcome) (c v : Bool) → c ≡ v → cond c p q ≡ cond v p q
chooses p q c v e = ap (λ (x : Bool). cond x p q) e

-- a loop at its guard
looks : (g : ℕ) (a rest : Block) (s : List Slot) (t : ℕ) (v : Bool) → holds g s ≡ v → exec (while g a rest) s t ≡ cond v (take_turn t (λ left. and_then (exec a s left) (exec (while g a rest)))) (exec rest s t)
looks g a rest s t v e =
    loops_unfold g a rest s t
    ∙ chooses (take_turn t (λ left. and_then (exec a s left) (exec (while g a rest)))) (exec rest s t) (holds g s) v e

pub gives : {b : Block} {s : List Slot} {t : ℕ} {o : Outcome} → Runs b s t o → exec b s t ≡ o
gives ended = refl
gives (idled d) = gives d
gives (assigned d) = gives d
gives (if_passed {g} {a} {rest} {s} {t} {o} z d) =
    followed (cond (holds g s) (exec a s t) (done s t)) (exec rest) s t o (chooses (exec a s t) (done s t) (holds g s) false (ap is_nonzero z)) (gives d)
gives (if_run {g} {a} {rest} {s} {m} {t} {u} {o} h d k) =
    followed (cond (holds g s) (exec a s t) (done s t)) (exec rest) m u o (chooses (exec a s t) (done s t) (holds g s) true (nonzero (value_at s g) h) ∙ gives d) (gives k)
gives (if_cut {g} {a} {rest} {s} {t} h d) =
    cut_short (cond (holds g s) (exec a s t) (done s t)) (exec rest) (chooses (exec a s t) (done s t) (holds g s) true (nonzero (value_at s g) h) ∙ gives d)
gives (first_run {g} {a} {b} {rest} {s} {m} {t} {u} {o} h d k) =
    followed (cond (holds g s) (exec a s t) (exec b s t)) (exec rest) m u o (chooses (exec a s t) (exec b s t) (holds g s) true (nonzero (value_at s g) h) ∙ gives d) (gives k)
gives (first_cut {g} {a} {b} {rest} {s} {t} h d) =
    cut_short (cond (holds g s) (exec a s t) (exec b s t)) (exec rest) (chooses (exec a s t) (exec b s t) (holds g s) true (nonzero (value_at s g) h) ∙ gives d)
gives (second_run {g} {a} {b} {rest} {s} {m} {t} {u} {o} z d k) =
    followed (cond (holds g s) (exec a s t) (exec b s t)) (exec rest) m u o (chooses (exec a s t) (exec b s t) (holds g s) false (ap is_nonzero z) ∙ gives d) (gives k)
gives (second_cut {g} {a} {b} {rest} {s} {t} z d) =
    cut_short (cond (holds g s) (exec a s t) (exec b s t)) (exec rest) (chooses (exec a s t) (exec b s t) (holds g s) false (ap is_nonzero z) ∙ gives d)
gives (while_passed {g} {a} {rest} {s} {t} {o} z d) = looks g a rest s t false (ap is_nonzero z) ∙ gives d
gives (while_out_of_turns {g} {a} {rest} {s} h) = looks g a rest s 0 true (nonzero (value_at s g) h)
gives (while_turned {g} {a} {rest} {s} {m} {t} {u} {o} h d k) =
    looks g a rest s (suc t) true (nonzero (value_at s g) h) ∙ followed (exec a s t) (exec (while g a rest)) m u o (gives d) (gives k)
gives (while_cut {g} {a} {rest} {s} {t} h d) =
    looks g a rest s (suc t) true (nonzero (value_at s g) h) ∙ cut_short (exec a s t) (exec (while g a rest)) (gives d)

-- From what running gives to the rules.
abbrev ByRules : Block → Type 0
ByRules b = (s : List Slot) (t : ℕ) → Runs b s t (exec b s t)

when_rule : (g : ℕ) (a rest : Block) (s : List Slot) (t : ℕ) → ByRules rest → (v : Bool) → holds g s ≡ v → (p : Outcome) → Runs a s t p → Runs (when g a rest) s t (and_then (cond v p (done s t)) (exec rest))
when_rule g a rest s t k false h p d = if_passed (is_zero (value_at s g) h) (k s t)
when_rule g a rest s t k true h (done m u) d = if_run (not_zero (value_at s g) h) d (k m u)
when_rule g a rest s t k true h cut d = if_cut (not_zero (value_at s g) h) d

either_rule : (g : ℕ) (a b rest : Block) (s : List Slot) (t : ℕ) → ByRules rest → (v : Bool) → holds g s ≡ v → (p q : Outcome) → Runs a s t p → Runs b s t q → Runs (either g a b rest) s t (and_then (cond v p q) (exec rest))
either_rule g a b rest s t k true h (done m u) q d e = first_run (not_zero (value_at s g) h) d (k m u)
either_rule g a b rest s t k true h cut q d e = first_cut (not_zero (value_at s g) h) d
either_rule g a b rest s t k false h p (done m u) d e = second_run (is_zero (value_at s g) h) e (k m u)
either_rule g a b rest s t k false h p cut d e = second_cut (is_zero (value_at s g) h) e

module _ (g : ℕ) (a rest : Block) (in_Body : ByRules a) (in_rest : ByRules rest) where
  abbrev again : List Slot → ℕ → Type 0
  again m u = Runs (while g a rest) m u (exec (while g a rest) m u)

  round_rule : (s : List Slot) (t : ℕ) (p : Outcome) → value_at s g ≢ pos 0 → Runs a s t p → EndsSo again p → Runs (while g a rest) s (suc t) (and_then p (exec (while g a rest)))
  round_rule s t (done m u) h d k = while_turned h d k
  round_rule s t cut h d k = while_cut h d

  -- a loop at its guard, given what it does with fewer turns
  look_rule : (s : List Slot) (t : ℕ) → ((m : List Slot) (u : ℕ) → u < t → again m u) → (v : Bool) → holds g s ≡ v → Runs (while g a rest) s t (cond v (take_turn t (λ left. and_then (exec a s left) (exec (while g a rest)))) (exec rest s t))
  look_rule s t k false h = while_passed (is_zero (value_at s g) h) (in_rest s t)
  look_rule s zero k true h = while_out_of_turns (not_zero (value_at s g) h)
  look_rule s (suc t) k true h =
      round_rule s t (exec a s t) (not_zero (value_at s g) h) (in_Body s t) (weaker (Kept s t) again (λ m u q. k m u (omega (arith, q.turns))) (exec a s t) (kept a s t))

  while_rule : (bound : ℕ) (s : List Slot) (t : ℕ) → t ≤ bound → again s t
  while_rule zero s t le =
      subst (Runs (while g a rest) s t) (sym (loops_unfold g a rest s t)) (look_rule s t (λ m u lt. absurd (omega arith)) (holds g s) refl)
  while_rule (suc bound) s t le =
      subst (Runs (while g a rest) s t) (sym (loops_unfold g a rest s t)) (look_rule s t (λ m u lt. while_rule bound m u (omega arith)) (holds g s) refl)

by_rules : (b : Block) → ByRules b
by_rules nil s t = ended
by_rules (simple skip rest) s t = idled (by_rules rest s t)
by_rules (simple (assign i e) rest) s t = assigned (by_rules rest (put s i (value_of e s)) t)
by_rules (when g a rest) s t = when_rule g a rest s t (by_rules rest) (holds g s) refl (exec a s t) (by_rules a s t)
by_rules (either g a b rest) s t = either_rule g a b rest s t (by_rules rest) (holds g s) refl (exec a s t) (exec b s t) (by_rules a s t) (by_rules b s t)
by_rules (while g a rest) s t = while_rule g a rest (by_rules a) (by_rules rest) t s t (le_refl t)

pub rules_agree : RulesAgree
rules_agree b s t o = (λ d. gives d, λ e. subst (Runs b s t) e (by_rules b s t))
