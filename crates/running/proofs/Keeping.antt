-- What a run keeps: the slots' number, their labels, and no turn is gained. Assumes nothing.
use Rattle.std.proofs.Common.{◌≡◌, ℕ, zero, suc, ◌≤◌, Bool, true, false, cond, List, sym, refl, ◌∙◌, subst, le_trans, le_refl, arith}
use Rattle.table.specs.declared.table.Slot.{Slot}
use Rattle.table.proofs.Puts.{size_put, label_put}
use Rattle.sheets.specs.Programs.{Simple, skip, assign, Block, nil, simple, when, either, while}
use Rattle.running.specs.Running.{Outcome, done, cut, value_of, do_simple, holds, and_then, take_turn, rounds, exec}
use Rattle.running.specs.Laws.{Kept, RunsKeep}

-- P holds where the outcome is an end
abbrev pub EndsSo : (List Slot → ℕ → Type 0) → Outcome → Type 0
EndsSo P (done s t) = P s t
EndsSo P cut = Unit {0}

pub weaker : (P Q : List Slot → ℕ → Type 0) → ((m : List Slot) (u : ℕ) → P m u → Q m u) → (o : Outcome) → EndsSo P o → EndsSo Q o
weaker P Q f (done m u) h = f m u h
weaker P Q f cut h = tt

kept_same : (s : List Slot) (t : ℕ) → Kept s t s t
kept_same s t = record { number = refl; labels = λ i. refl; turns = le_refl t }

kept_then : (s : List Slot) (t : ℕ) (m : List Slot) (u : ℕ) (w : List Slot) (v : ℕ) → Kept s t m u → Kept m u w v → Kept s t w v
kept_then s t m u w v h k =
    record {
      number = k.number ∙ h.number;
      labels = λ i. k.labels i ∙ h.labels i;
      turns = le_trans k.turns h.turns;
    }

kept_simple : (x : Simple) (s : List Slot) (t : ℕ) → Kept s t (do_simple x s) t
kept_simple skip s t = kept_same s t
kept_simple (assign i e) s t =
    record {
      number = size_put s i (value_of e s);
      labels = λ j. label_put s i j (value_of e s);
      turns = le_refl t;
    }

-- what is kept up to some point is kept by what goes on from there
kept_on : (s : List Slot) (t : ℕ) (m : List Slot) (u : ℕ) → Kept s t m u → (o : Outcome) → EndsSo (Kept m u) o → EndsSo (Kept s t) o
kept_on s t m u h (done w v) k = kept_then s t m u w v h k
kept_on s t m u h cut k = tt

kept_and_then : (s : List Slot) (t : ℕ) (o : Outcome) (go : List Slot → ℕ → Outcome) → EndsSo (Kept s t) o → ((w : List Slot) (u : ℕ) → EndsSo (Kept w u) (go w u)) → EndsSo (Kept s t) (and_then o go)
kept_and_then s t (done w u) go h k = kept_on s t w u h (go w u) (k w u)
kept_and_then s t cut go h k = tt

kept_cond : (s : List Slot) (t : ℕ) (c : Bool) (p q : Outcome) → EndsSo (Kept s t) p → EndsSo (Kept s t) q → EndsSo (Kept s t) (cond c p q)
kept_cond s t true p q h k = h
kept_cond s t false p q h k = k

kept_turn : (s : List Slot) (t : ℕ) (go : ℕ → Outcome) → ((u : ℕ) → EndsSo (Kept s u) (go u)) → EndsSo (Kept s t) (take_turn t go)
kept_turn s zero go h = tt
kept_turn s (suc t) go h =
    kept_on s (suc t) s t (record { number = refl; labels = λ i. refl; turns = omega arith }) (go t) (h t)

kept_rounds : (g : ℕ) (body : List Slot → ℕ → Outcome) → ((w : List Slot) (u : ℕ) → EndsSo (Kept w u) (body w u)) → (bound : ℕ) (s : List Slot) (t : ℕ) → EndsSo (Kept s t) (rounds bound g body s t)
kept_rounds g body low zero s t = kept_cond s t (holds g s) cut (done s t) tt (kept_same s t)
kept_rounds g body low (suc bound) s t =
    let round : ℕ → Outcome = λ left. and_then (body s left) (rounds bound g body) in
    kept_cond s t (holds g s) (take_turn t round) (done s t)
    (kept_turn s t round (λ u. kept_and_then s u (body s u) (rounds bound g body) (low s u) (kept_rounds g body low bound)))
    (kept_same s t)

pub kept : (b : Block) (s : List Slot) (t : ℕ) → EndsSo (Kept s t) (exec b s t)
kept nil s t = kept_same s t
kept (simple x rest) s t = kept_on s t (do_simple x s) t (kept_simple x s t) (exec rest (do_simple x s) t) (kept rest (do_simple x s) t)
kept (when g a rest) s t =
    kept_and_then s t (cond (holds g s) (exec a s t) (done s t)) (exec rest)
    (kept_cond s t (holds g s) (exec a s t) (done s t) (kept a s t) (kept_same s t)) (kept rest)
kept (either g a b rest) s t =
    kept_and_then s t (cond (holds g s) (exec a s t) (exec b s t)) (exec rest)
    (kept_cond s t (holds g s) (exec a s t) (exec b s t) (kept a s t) (kept b s t)) (kept rest)
kept (while g a rest) s t =
    kept_and_then s t (rounds t g (exec a) s t) (exec rest) (kept_rounds g (exec a) (kept a) t s t) (kept rest)

pub runs_keep : RunsKeep
runs_keep b s after t left e = subst (EndsSo (Kept s t)) e (kept b s t)

-- a run that comes to its end leaves at most the turns that it had
pub leaves : (b : Block) (s w : List Slot) (t u : ℕ) → done w u ≡ exec b s t → u ≤ t
leaves b s w t u e = (runs_keep b s w t u (sym e)).turns
