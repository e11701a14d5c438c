-- What the rows so far say of the walk: whether a program could begin with them, and which block is open. Assumes nothing.
use Rattle.std.proofs.Common.{◌≡◌, ℕ, ◌+◌, Bool, true, false, cond, ltb, List, [], ◌∷◌, ◌++◌, length, Ok, Err, Result, sym, refl, ap, ◌∙◌, subst, arith}
use Rattle.rows.specs.declared.row.Row.{Row}
use Rattle.rows.specs.declared.row.Row.TheVariants.{Idle, PutConstant, SlotWithConstant, TwoSlots, If, Else, While, End}
use Rattle.rows.specs.declared.fault.RowFault.{RowFault}
use Rattle.rows.specs.declared.fault.RowReason.{RowReason}
use Rattle.rows.specs.declared.fault.RowReason.TheVariants.{ElseOutOfPlace, EndOutOfPlace, TooDeep}
use Rattle.sheets.specs.Meaning.{Begins, Misplaced, else_row, end_row, if_row, while_row, Inside, in_loop, in_first, in_second, LatestOpen}
use Rattle.sheets.specs.Programs.{Block, nil, simple, when, either, while, listing}
use Rattle.sheets.specs.Walk.{opener, refused, entered, and_then, walk, accepts}
use Rattle.sheets.specs.declared.walker.Open.{Open}
use Rattle.sheets.specs.declared.walker.Open.TheVariants.{InThen, InElse, InLoop}
use Rattle.sheets.proofs.Walks.{walk_append, walk_push, entered_simple, listed, exact, Standing, Stands, stands}

-- a second step that is done was after a first
pub record Both {A B E : Type 0} (s : Result A E) (next : A → Result B E) (y : B) : Type 0 where
  pub value : A
  pub first : s ≡ Ok value
  pub second : next value ≡ Ok y

pub both_done : {A B E : Type 0} (s : Result A E) (next : A → Result B E) (y : B) → and_then s next ≡ Ok y → Both s next y
both_done (Ok x) next y e = record { value = x; first = refl; second = e }
both_done (Err f) next y e = let z : ◌≡◌ {A = ℕ} 0 1 = cc in absurd (omega arith)

-- one end for each open block
closings : List Open → List Row
closings [] = []
closings (o ∷ st) = End ∷ closings st

closed_all : (st : List Open) (i : ℕ) → walk i (closings st) st ≡ Ok []
unfolding closings
closed_all [] i = refl
closed_all (o ∷ st) i = closed_all st (i + 1)

-- rows that are walked can go on to a program
pub begins : (rows : List Row) (st : List Open) → walk 0 rows [] ≡ Ok st → Begins rows
begins rows st e =
    record {
      rest = closings st;
      program = listed (rows ++ closings st)
          (ap accepts (walk_append 0 rows (closings st) []
          ∙ (ap (λ (s : Result (List Open) RowFault). and_then s (walk (0 + length rows) (closings st))) e ∙ closed_all st (0 + length rows))));
    }

-- and no others can
pub begun : (rows : List Row) → Begins rows → (st : List Open) × (walk 0 rows [] ≡ Ok st)
begun rows b =
    go (walk 0 rows []) refl (sym (ap accepts (walk_append 0 rows b.rest [])) ∙ (exact (rows ++ b.rest)).1 b.program)
  where
    go : (s : Result (List Open) RowFault) → walk 0 rows [] ≡ s → accepts (and_then s (walk (0 + length rows) b.rest)) ≡ true → (st : List Open) × (walk 0 rows [] ≡ Ok st)
    go (Ok st) e h = (st, e)
    go (Err f) e h = let z : ◌≡◌ {A = ℕ} 0 1 = cc in absurd (omega arith)

-- what is walked is not refused
never_refused : {A : Type 0} (st : List Open) (f : RowFault) → Ok st ≡ Err f → A
never_refused st f e = let z : ◌≡◌ {A = ℕ} 0 1 = cc in absurd (omega arith)

-- a row that the walk refuses goes on to none
pub begins_not : (rows : List Row) (r : Row) (st : List Open) (f : RowFault) → walk 0 rows [] ≡ Ok st → entered r (length rows) st ≡ Err f → Begins (rows ++ (r ∷ [])) → ⊥
begins_not rows r st f e bad b =
    let w = begun (rows ++ (r ∷ [])) b in
    let both : Ok w.0 ≡ Err f = sym w.1 ∙ (walk_push rows r st e ∙ bad) in
    never_refused w.0 f both

-- which rows the walk refuses, and why
refused_so : (r : Row) (i : ℕ) (why : RowReason) (f : RowFault) → Misplaced r why → refused {A = List Open} i why ≡ Err f → (f.row ≡ i) × Misplaced r f.reason
refused_so r i why f m e =
    let is : record { row = i; reason = why } ≡ f = cc in
    subst (λ (x : RowFault). (x.row ≡ i) × Misplaced r x.reason) is (refl, m)

opened_not : (r : Row) (o : Open) (i : ℕ) (st : List Open) (f : RowFault) (c : Bool) → Misplaced r TooDeep → cond c (Ok (o ∷ st)) (refused i TooDeep) ≡ Err f → (f.row ≡ i) × Misplaced r f.reason
opened_not r o i st f true m e = never_refused (o ∷ st) f e
opened_not r o i st f false m e = refused_so r i TooDeep f m e

pub entered_not : (r : Row) (i : ℕ) (st : List Open) (f : RowFault) → entered r i st ≡ Err f → (f.row ≡ i) × Misplaced r f.reason
entered_not Idle i st f e = never_refused st f e
entered_not (PutConstant target constant) i st f e = never_refused st f e
entered_not (SlotWithConstant op target first constant) i st f e = never_refused st f e
entered_not (TwoSlots op target first second) i st f e = never_refused st f e
entered_not (If g) i st f e = opened_not (If g) (InThen i) i st f (ltb (length st) 16) (if_row g) e
entered_not (While g) i st f e = opened_not (While g) (InLoop i) i st f (ltb (length st) 16) (while_row g) e
entered_not Else i [] f e = refused_so Else i ElseOutOfPlace f else_row e
entered_not Else i (InThen k ∷ st) f e = never_refused (InElse k i ∷ st) f e
entered_not Else i (InElse k j ∷ st) f e = refused_so Else i ElseOutOfPlace f else_row e
entered_not Else i (InLoop k ∷ st) f e = refused_so Else i ElseOutOfPlace f else_row e
entered_not End i [] f e = refused_so End i EndOutOfPlace f end_row e
entered_not End i (o ∷ st) f e = never_refused st f e

pub one_reason : {r : Row} {a b : RowReason} → Misplaced r a → Misplaced r b → a ≡ b
one_reason else_row else_row = refl
one_reason end_row end_row = refl
one_reason (if_row g) (if_row h) = refl
one_reason (while_row g) (while_row h) = refl

-- the latest open block, by the rows
latest_of : (rows : List Row) (o : Open) (st : List Open) → Standing rows (o ∷ st) → LatestOpen rows (opener o)
latest_of rows (InThen k) st h =
    record { front = h.front; opening = If h.guard; inner = listing h.body; parts = sym h.is; here = h.here; inside = in_first h.guard h.body }
latest_of rows (InElse k j) st h =
    record {
      front = h.front;
      opening = If h.guard;
      inner = listing h.first ++ (Else ∷ listing h.second);
      parts = sym h.is;
      here = h.here;
      inside = in_second h.guard h.first h.second;
    }
latest_of rows (InLoop k) st h =
    record { front = h.front; opening = While h.guard; inner = listing h.body; parts = sym h.is; here = h.here; inside = in_loop h.guard h.body }

pub open_latest : (rows : List Row) (o : Open) (st : List Open) → walk 0 rows [] ≡ Ok (o ∷ st) → LatestOpen rows (opener o)
open_latest rows o st e = latest_of rows o st (subst (λ (s : Result (List Open) RowFault). Stands rows s) e (stands rows))

-- a block that was opened is the latest
opened_on : (o : Open) (i : ℕ) (st next : List Open) (f : List Open → Result (List Open) RowFault) (c : Bool) → and_then (cond c (Ok (o ∷ st)) (refused i TooDeep)) f ≡ Ok next → f (o ∷ st) ≡ Ok next
opened_on o i st next f true e = e
opened_on o i st next f false e = cc

-- a walk passes over a block and leaves open what was open
abbrev Passes : Block → Type 0
Passes b = (i : ℕ) (st next : List Open) → walk i (listing b) st ≡ Ok next → next ≡ st

over : (a : Block) → Passes a → (rows : List Row) (i : ℕ) (st next : List Open) → walk i (listing a ++ rows) st ≡ Ok next → walk (i + length (listing a)) rows st ≡ Ok next
over a pass rows i st next e =
    let b = both_done (walk i (listing a) st) (walk (i + length (listing a)) rows) next (sym (walk_append i (listing a) rows st) ∙ e) in
    subst (λ (s : List Open). walk (i + length (listing a)) rows s ≡ Ok next) (pass i st b.value b.first) b.second

passes : (b : Block) → Passes b
passes nil i st next e = cc
passes (simple s rest) i st next e =
    passes rest (i + 1) st next (sym (ap (λ (z : Result (List Open) RowFault). and_then z (walk (i + 1) (listing rest))) (entered_simple s i st)) ∙ e)
passes (when g a rest) i st next e =
    let inner = opened_on (InThen i) i st next (walk (i + 1) (listing a ++ (End ∷ listing rest))) (ltb (length st) 16) e in
    passes rest (i + 1 + length (listing a) + 1) st next (over a (passes a) (End ∷ listing rest) (i + 1) (InThen i ∷ st) next inner)
passes (either g a b rest) i st next e =
    let mid : ℕ = i + 1 + length (listing a) in
    let inner = opened_on (InThen i) i st next (walk (i + 1) (listing a ++ (Else ∷ (listing b ++ (End ∷ listing rest))))) (ltb (length st) 16) e in
    let beyond = over a (passes a) (Else ∷ (listing b ++ (End ∷ listing rest))) (i + 1) (InThen i ∷ st) next inner in
    passes rest (mid + 1 + length (listing b) + 1) st next (over b (passes b) (End ∷ listing rest) (mid + 1) (InElse i mid ∷ st) next beyond)
passes (while g a rest) i st next e =
    let inner = opened_on (InLoop i) i st next (walk (i + 1) (listing a ++ (End ∷ listing rest))) (ltb (length st) 16) e in
    passes rest (i + 1 + length (listing a) + 1) st next (over a (passes a) (End ∷ listing rest) (i + 1) (InLoop i ∷ st) next inner)

-- the latest open block of a walk
pub record Opened (st : List Open) (k : ℕ) : Type 0 where
  pub block : Open
  pub around : List Open
  pub is : st ≡ block ∷ around
  pub here : opener block ≡ k

opened_at : {r : Row} {inner : List Row} → Inside r inner → (k : ℕ) (st next : List Open) → walk k (r ∷ inner) st ≡ Ok next → Opened next k
opened_at (in_loop g a) k st next e =
    let inner = opened_on (InLoop k) k st next (walk (k + 1) (listing a)) (ltb (length st) 16) e in
    record { block = InLoop k; around = st; is = passes a (k + 1) (InLoop k ∷ st) next inner; here = refl }
opened_at (in_first g a) k st next e =
    let inner = opened_on (InThen k) k st next (walk (k + 1) (listing a)) (ltb (length st) 16) e in
    record { block = InThen k; around = st; is = passes a (k + 1) (InThen k ∷ st) next inner; here = refl }
opened_at (in_second g a b) k st next e =
    let mid : ℕ = k + 1 + length (listing a) in
    let inner = opened_on (InThen k) k st next (walk (k + 1) (listing a ++ (Else ∷ listing b))) (ltb (length st) 16) e in
    let beyond = over a (passes a) (Else ∷ listing b) (k + 1) (InThen k ∷ st) next inner in
    record { block = InElse k mid; around = st; is = passes b (mid + 1) (InElse k mid ∷ st) next beyond; here = refl }

pub latest_opened : (rows : List Row) (k : ℕ) (st : List Open) → LatestOpen rows k → walk 0 rows [] ≡ Ok st → Opened st k
latest_opened rows k st l e =
    let whole : walk 0 (l.front ++ (l.opening ∷ l.inner)) [] ≡ Ok st = ap (λ (xs : List Row). walk 0 xs []) (sym l.parts) ∙ e in
    let b = both_done (walk 0 l.front []) (walk (0 + length l.front) (l.opening ∷ l.inner)) st (sym (walk_append 0 l.front (l.opening ∷ l.inner) []) ∙ whole) in
    let here : 0 + length l.front ≡ k = omega (arith, l.here) in
    opened_at l.inside k b.value st (subst (λ (n : ℕ). walk n (l.opening ∷ l.inner) b.value ≡ Ok st) here b.second)
