-- A run that comes to its end does the same with more turns. Assumes nothing.
use Rattle.std.proofs.Common.{ℕ, suc, ◌+◌, List, sym, subst, suc-add}
use Rattle.table.specs.declared.table.Slot.{Slot}
use Rattle.sheets.specs.Programs.{Block, while}
use Rattle.running.specs.Running.{Outcome, done}
use Rattle.running.specs.Laws.{MoreTurnsChangeNothing}
use Rattle.running.specs.BigStep.{Runs, ended, idled, assigned, if_passed, if_run, if_cut, first_run, first_cut, second_run, second_cut, while_passed, while_out_of_turns, while_turned, while_cut}
use Rattle.running.proofs.Keeping.{EndsSo, weaker}
use Rattle.running.proofs.Rules.{gives, rules_agree}

module _ (k : ℕ) where
  -- where the outcome is an end, the block comes to it with k more turns, and has k more left
  abbrev Longer : Block → List Slot → ℕ → Outcome → Type 0
  Longer b s t o = EndsSo (λ w u. Runs b s (t + k) (done w (u + k))) o

  -- what follows a part of a block carries its length over to the block
  over : (b c : Block) (s m : List Slot) (t u : ℕ) (o : Outcome) → ((w : List Slot) (v : ℕ) → Runs c m (u + k) (done w (v + k)) → Runs b s (t + k) (done w (v + k))) → Longer c m u o → Longer b s t o
  over b c s m t u o f h =
      weaker (λ w v. Runs c m (u + k) (done w (v + k))) (λ w v. Runs b s (t + k) (done w (v + k))) f o h

  longer : {b : Block} {s : List Slot} {t : ℕ} {o : Outcome} → Runs b s t o → Longer b s t o
  longer ended = ended
  longer (idled {rest} {s} {t} {o} d) = over _ rest s s t t o (λ w v r. idled r) (longer d)
  longer (assigned {i} {e} {rest} {s} {t} {o} d) = over _ rest s _ t t o (λ w v r. assigned r) (longer d)
  longer (if_passed {g} {a} {rest} {s} {t} {o} z d) = over _ rest s s t t o (λ w v r. if_passed z r) (longer d)
  longer (if_run {g} {a} {rest} {s} {m} {t} {u} {o} h d e) = over _ rest s m t u o (λ w v r. if_run h (longer d) r) (longer e)
  longer (if_cut h d) = tt
  longer (first_run {g} {a} {b} {rest} {s} {m} {t} {u} {o} h d e) = over _ rest s m t u o (λ w v r. first_run h (longer d) r) (longer e)
  longer (first_cut h d) = tt
  longer (second_run {g} {a} {b} {rest} {s} {m} {t} {u} {o} z d e) = over _ rest s m t u o (λ w v r. second_run z (longer d) r) (longer e)
  longer (second_cut z d) = tt
  longer (while_passed {g} {a} {rest} {s} {t} {o} z d) = over _ rest s s t t o (λ w v r. while_passed z r) (longer d)
  longer (while_out_of_turns h) = tt
  longer (while_turned {g} {a} {rest} {s} {m} {t} {u} {o} h d e) =
      over (while g a rest) (while g a rest) s m (suc t) u o
      (λ w v r. subst (λ (n : ℕ). Runs (while g a rest) s n (done w (v + k))) (sym (suc-add t k)) (while_turned h (longer d) r))
      (longer e)
  longer (while_cut h d) = tt

pub more_turns_change_nothing : MoreTurnsChangeNothing
more_turns_change_nothing b s after t left k e = gives (longer k ((rules_agree b s t (done after left)).1 e))
