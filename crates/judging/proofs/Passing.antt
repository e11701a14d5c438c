-- Lists of verdicts that all pass. Assumes nothing.
use Rattle.std.proofs.Common.{◌≡◌, ℕ, zero, suc, ◌+◌, ◌<◌, Bool, true, false, List, [], ◌∷◌, ◌++◌, get_or, Some, None, Option, refl, arith}
use Rattle.rows.specs.declared.fault.RowFault.{RowFault}
use Rattle.rows.specs.declared.fault.RowReason.{RowReason}
use Rattle.table.specs.Slots.{is_listed}
use Rattle.judging.specs.Judging.{has_label, unless_passed, first_fault}

pub data Passed : List (Option RowReason) → Type 0 where
  none : Passed []
  next : {vs : List (Option RowReason)} → Passed vs → Passed (None ∷ vs)

pub passed_head : {v : Option RowReason} {vs : List (Option RowReason)} → Passed (v ∷ vs) → v ≡ None
passed_head (next h) = refl

pub passed_tail : {v : Option RowReason} {vs : List (Option RowReason)} → Passed (v ∷ vs) → Passed vs
passed_tail (next h) = h

pub passed_cons : (v : Option RowReason) {vs : List (Option RowReason)} → v ≡ None → Passed vs → Passed (v ∷ vs)
passed_cons None e h = next h
passed_cons (Some why) e h = let z : ◌≡◌ {A = ℕ} 0 1 = cc in absurd (omega arith)

pub passed_front : (vs ws : List (Option RowReason)) → Passed (vs ++ ws) → Passed vs
passed_front [] ws h = none
passed_front (v ∷ vs) ws h = passed_cons v (passed_head h) (passed_front vs ws (passed_tail h))

pub passed_back : (vs ws : List (Option RowReason)) → Passed (vs ++ ws) → Passed ws
passed_back [] ws h = h
passed_back (v ∷ vs) ws h = passed_back vs ws (passed_tail h)

pub passed_append : {vs ws : List (Option RowReason)} → Passed vs → Passed ws → Passed (vs ++ ws)
passed_append none k = k
passed_append (next h) k = next (passed_append h k)

-- by place

pub passed_places : {vs : List (Option RowReason)} → Passed vs → (i : ℕ) → get_or vs i None ≡ None
passed_places none i = refl
passed_places (next h) zero = refl
passed_places (next h) (suc i) = passed_places h i

pub places_passed : (vs : List (Option RowReason)) → ((i : ℕ) → get_or vs i None ≡ None) → Passed vs
places_passed [] h = none
places_passed (v ∷ vs) h = passed_cons v (h 0) (places_passed vs (λ i. h (suc i)))

-- by the first fault

pub passed_faultless : {vs : List (Option RowReason)} → Passed vs → (i : ℕ) → first_fault i vs ≡ None
passed_faultless none i = refl
passed_faultless (next h) i = passed_faultless h (i + 1)

pub faultless_passed : (vs : List (Option RowReason)) (i : ℕ) → first_fault i vs ≡ None → Passed vs
faultless_passed [] i e = none
faultless_passed (None ∷ vs) i e = next (faultless_passed vs (i + 1) e)
faultless_passed (Some why ∷ vs) i e = let z : ◌≡◌ {A = ℕ} 0 1 = cc in absurd (omega arith)

-- j places on, the first verdict against a row
pub record First (vs : List (Option RowReason)) (i : ℕ) (fault : RowFault) : Type 0 where
  pub j : ℕ
  pub row_is : fault.row ≡ i + j
  pub here : get_or vs j None ≡ Some fault.reason
  pub before : (k : ℕ) → k < j → get_or vs k None ≡ None

earlier : (vs : List (Option RowReason)) (j : ℕ) → ((k : ℕ) → k < j → get_or vs k None ≡ None) →
    (k : ℕ) → k < suc j → get_or (None ∷ vs) k None ≡ None
earlier vs j before zero h = refl
earlier vs j before (suc k) h = before k (omega arith)

pub fault_first : (vs : List (Option RowReason)) (i : ℕ) (fault : RowFault) → first_fault i vs ≡ Some fault → First vs i fault
fault_first [] i fault e = let z : ◌≡◌ {A = ℕ} 0 1 = cc in absurd (omega arith)
fault_first (None ∷ vs) i fault e =
    let rest = fault_first vs (i + 1) fault e in
    record {
      j = suc rest.j;
      row_is = omega (arith, rest.row_is);
      here = rest.here;
      before = earlier vs rest.j rest.before;
    }
fault_first (Some why ∷ vs) i fault e = record {
  j = 0;
  row_is = let same : fault.row ≡ i = cc in omega arith;
  here = cc;
  before = λ k h. absurd (omega arith);
}

pub first_faults : (vs : List (Option RowReason)) (i j n : ℕ) (why : RowReason) → n ≡ i + j → get_or vs j None ≡ Some why →
    ((k : ℕ) → k < j → get_or vs k None ≡ None) → first_fault i vs ≡ Some (record { row = n; reason = why })
first_faults [] i j n why e here before = cc
first_faults (None ∷ vs) i zero n why e here before = cc
first_faults (None ∷ vs) i (suc j) n why e here before =
    first_faults vs (i + 1) j n why (omega arith) here (λ k h. before (suc k) (omega arith))
first_faults (Some other ∷ vs) i zero n why e here before = let same : i ≡ n = omega arith in cc
first_faults (Some other ∷ vs) i (suc j) n why e here before =
    let none : Some other ≡ None = before 0 (omega arith) in
    cc

-- one verdict

pub passes_true : (b : Bool) (why : RowReason) → unless_passed b why ≡ None → b ≡ true
passes_true true why e = refl
passes_true false why e = cc

pub true_passes : (b : Bool) (why : RowReason) → b ≡ true → unless_passed b why ≡ None
true_passes b why e = rw e

pub label_of : (o : Option ℕ) (test : ℕ → Bool) → has_label o test ≡ true → (l : ℕ) × (o ≡ Some l) × (test l ≡ true)
label_of None test e = let z : ◌≡◌ {A = ℕ} 0 1 = cc in absurd (omega arith)
label_of (Some l) test e = (l, refl, e)

pub listed_label : (o : Option ℕ) → is_listed o ≡ true → (l : ℕ) × (o ≡ Some l)
listed_label None e = let z : ◌≡◌ {A = ℕ} 0 1 = cc in absurd (omega arith)
listed_label (Some l) e = (l, refl)

pub has : (o : Option ℕ) (test : ℕ → Bool) {l : ℕ} → o ≡ Some l → test l ≡ true → has_label o test ≡ true
has o test e h = rw e h

pub is : (o : Option ℕ) {l : ℕ} → o ≡ Some l → is_listed o ≡ true
is o e = rw e
