-- A loop's bound does not run out, and blocks in sequence run in order. Assumes nothing.
use Rattle.std.proofs.Common.{◌≡◌, ℕ, zero, suc, ◌-◌, ◌<◌, ◌≤◌, Bool, true, false, cond, List, sym, refl, ap, ◌∙◌, le_refl, arith}
use Rattle.table.specs.declared.table.Slot.{Slot}
use Rattle.sheets.specs.Programs.{Block, nil, simple, when, either, while, ◌⨾◌}
use Rattle.sheets.proofs.Walks.{listing_then}
use Rattle.running.specs.Running.{Outcome, done, cut, do_simple, holds, and_then, take_turn, rounds, exec}
use Rattle.running.specs.Laws.{Kept, LoopsUnfold, SequencesRunInOrder}
use Rattle.running.proofs.Keeping.{EndsSo, kept}

-- what goes on after an outcome is asked only with the turns that the outcome can leave
same_then : (s : List Slot) (t : ℕ) (o : Outcome) (f h : List Slot → ℕ → Outcome) → EndsSo (Kept s t) o → ((w : List Slot) (u : ℕ) → u ≤ t → f w u ≡ h w u) → and_then o f ≡ and_then o h
same_then s t (done w u) f h k e = e w u k.turns
same_then s t cut f h k e = refl

module _ (g : ℕ) (a : Block) where
  -- any bound of at least the turns left gives the same
  bounds : (m n : ℕ) (s : List Slot) (t : ℕ) → t ≤ m → t ≤ n → rounds m g (exec a) s t ≡ rounds n g (exec a) s t
  bounds zero zero s t h k = refl
  bounds zero (suc n) s zero h k = refl
  bounds zero (suc n) s (suc t) h k = absurd (omega arith)
  bounds (suc m) zero s zero h k = refl
  bounds (suc m) zero s (suc t) h k = absurd (omega arith)
  bounds (suc m) (suc n) s zero h k = refl
  bounds (suc m) (suc n) s (suc t) h k =
      ap (λ (o : Outcome). cond (holds g s) o (done s (suc t)))
      (same_then s t (exec a s t) (rounds m g (exec a)) (rounds n g (exec a)) (kept a s t) (λ w u l. bounds m n w u (omega arith) (omega arith)))

  -- the rounds of a loop, from its slots and with its turns
  abbrev pub loop : List Slot → ℕ → Outcome
  loop s t = rounds t g (exec a) s t

  -- it looks at its guard: if that holds it takes a turn, and is then itself
  abbrev pub look : List Slot → ℕ → Outcome
  look s t = cond (holds g s) (take_turn t (λ left. and_then (exec a s left) loop)) (done s t)

  pub loop_looks : (s : List Slot) (t : ℕ) → loop s t ≡ look s t
  loop_looks s zero = refl
  loop_looks s (suc t) =
      ap (λ (o : Outcome). cond (holds g s) o (done s (suc t)))
      (same_then s t (exec a s t) (rounds t g (exec a)) loop (kept a s t) (λ w u l. bounds t u w u l (le_refl u)))

  -- what a look at a guard that holds comes to, once the body is run
  pub look_goes_on : (s : List Slot) (t : ℕ) (o : Outcome) → holds g s ≡ true → 0 < t → o ≡ exec a s (t - 1) → look s t ≡ and_then o loop
  look_goes_on s zero o e h ran = absurd (omega arith)
  look_goes_on s (suc t) o e h ran =
      let one : t ≡ suc t - 1 = omega arith in
      ap (λ (c : Bool). cond c (and_then (exec a s t) loop) (done s (suc t))) e
      ∙ (ap (λ (n : ℕ). and_then (exec a s n) loop) one ∙ ap (λ (x : Outcome). and_then x loop) (sym ran))

-- what follows a run that is followed
then_then : (o : Outcome) (f h : List Slot → ℕ → Outcome) → and_then (and_then o f) h ≡ and_then o (λ s t. and_then (f s t) h)
then_then (done s t) f h = refl
then_then cut f h = refl

then_cond : (c : Bool) (p q : Outcome) (f : List Slot → ℕ → Outcome) → and_then (cond c p q) f ≡ cond c (and_then p f) (and_then q f)
then_cond true p q f = refl
then_cond false p q f = refl

then_turn : (t : ℕ) (go : ℕ → Outcome) (f : List Slot → ℕ → Outcome) → and_then (take_turn t go) f ≡ take_turn t (λ left. and_then (go left) f)
then_turn zero go f = refl
then_turn (suc t) go f = refl

turn_same : (t : ℕ) (go on : ℕ → Outcome) → ((u : ℕ) → go u ≡ on u) → take_turn t go ≡ take_turn t on
turn_same zero go on e = refl
turn_same (suc t) go on e = e t

pub loops_unfold : LoopsUnfold
loops_unfold g a rest s t =
    let round : ℕ → Outcome = λ left. and_then (exec a s left) (loop g a) in
    let on : ℕ → Outcome = λ left. and_then (round left) (exec rest) in
    ap (λ (o : Outcome). and_then o (exec rest)) (loop_looks g a s t)
    ∙ (then_cond (holds g s) (take_turn t round) (done s t) (exec rest)
    ∙ ap (λ (o : Outcome). cond (holds g s) o (exec rest s t)) (then_turn t round (exec rest) ∙ turn_same t on (λ left. and_then (exec a s left) (exec (while g a rest))) (λ u. then_then (exec a s u) (loop g a) (exec rest))))

then_same : (o : Outcome) (f h : List Slot → ℕ → Outcome) → ((s : List Slot) (t : ℕ) → f s t ≡ h s t) → and_then o f ≡ and_then o h
then_same (done s t) f h e = e s t
then_same cut f h e = refl

-- an outcome followed by a sequence is followed by its parts
sequel : (o : Outcome) (a b : Block) → ((s : List Slot) (t : ℕ) → exec (a ⨾ b) s t ≡ and_then (exec a s t) (exec b)) → and_then o (exec (a ⨾ b)) ≡ and_then (and_then o (exec a)) (exec b)
sequel o a b e =
    then_same o (exec (a ⨾ b)) (λ s t. and_then (exec a s t) (exec b)) e ∙ sym (then_then o (exec a) (exec b))

in_order : (a b : Block) (s : List Slot) (t : ℕ) → exec (a ⨾ b) s t ≡ and_then (exec a s t) (exec b)
in_order nil b s t = refl
in_order (simple x rest) b s t = in_order rest b (do_simple x s) t
in_order (when g a rest) b s t = sequel (cond (holds g s) (exec a s t) (done s t)) rest b (in_order rest b)
in_order (either g a c rest) b s t = sequel (cond (holds g s) (exec a s t) (exec c s t)) rest b (in_order rest b)
in_order (while g a rest) b s t = sequel (rounds t g (exec a) s t) rest b (in_order rest b)

pub sequences_run_in_order : SequencesRunInOrder
sequences_run_in_order a b = record { lists = listing_then a b; runs = in_order a b }
