-- All rows of a block pass exactly when a derivation exists. Assumes nothing.
use Rattle.std.proofs.Common.{◌≡◌, ℕ, suc, ◌<◌, Bool, true, ◌&&◌, List, [], ◌∷◌, length, get_or, Some, None, Option, sym, refl, ap, subst, arith, length-append}
use Rattle.std.proofs.lemmas.Bool.{and_parts, and_from}
use Rattle.rows.specs.declared.fault.RowFault.{RowFault}
use Rattle.rows.specs.declared.fault.RowReason.{RowReason}
use Rattle.sheets.specs.Programs.{Expression, constant, with_constant, two_slots, skip, assign, Block, nil, simple, when, either, while, set_row, listing}
use Rattle.judging.specs.Typing.{Reads, reads_constant, reads_with_constant, reads_two_slots, Typed, typed_nil, typed_skip, typed_assign, typed_when, typed_either, typed_while}
use Rattle.judging.specs.Judging.{all_below, inside, raised, verdict, verdicts}
use Rattle.judging.specs.Theorems.{JudgedExactly}
use Rattle.judging.proofs.Passing.{Passed, none, next, passed_head, passed_tail, passed_cons, passed_front, passed_back, passed_append, passed_places, places_passed, passed_faultless, faultless_passed, First, fault_first, first_faults, passes_true, true_passes, label_of, listed_label, has, is}

module _ (flows : ℕ → ℕ → Bool) (joins : ℕ → ℕ → ℕ) (Γ : ℕ → Option ℕ) where
  -- the rule for a set row
  pub record Sets (γ i : ℕ) (e : Expression) : Type 0 where
    pub label : ℕ
    pub listed : Γ i ≡ Some label
    pub control : flows γ label ≡ true
    pub reads : Reads flows joins Γ label e

  sets : (p γ i : ℕ) (e : Expression) → verdict flows joins Γ p γ (set_row i e) ≡ None → Sets γ i e
  sets p γ i (constant k) e =
      let t = label_of (Γ i) (λ l. flows γ l && true) (passes_true _ _ e) in
      record { label = t.0; listed = t.1; control = (and_parts _ _ t.2).0; reads = reads_constant }
  sets p γ i (with_constant op a k) e =
      let t = label_of (Γ i) (λ l. flows γ l && all_below flows (Γ a ∷ []) l) (passes_true _ _ e) in
      let s = and_parts _ _ t.2 in
      let x = label_of (Γ a) (λ m. flows m t.0) (and_parts _ _ s.1).0 in
      record { label = t.0; listed = t.1; control = s.0; reads = reads_with_constant x.1 x.2 }
  sets p γ i (two_slots op a b) e =
      let t = label_of (Γ i) (λ l. flows γ l && all_below flows (Γ a ∷ Γ b ∷ []) l) (passes_true _ _ e) in
      let s = and_parts _ _ t.2 in
      let r = and_parts _ _ s.1 in
      let x = label_of (Γ a) (λ m. flows m t.0) r.0 in
      let y = label_of (Γ b) (λ m. flows m t.0) (and_parts _ _ r.1).0 in
      record { label = t.0; listed = t.1; control = s.0; reads = reads_two_slots x.1 x.2 y.1 y.2 }

  sets_pass : (p γ i l : ℕ) {e : Expression} → Γ i ≡ Some l → flows γ l ≡ true → Reads flows joins Γ l e →
      verdict flows joins Γ p γ (set_row i e) ≡ None
  sets_pass p γ i l t c reads_constant = true_passes _ _ (has (Γ i) _ t (and_from _ _ c refl))
  sets_pass p γ i l t c (reads_with_constant {a = a} x f) =
      true_passes _ _ (has (Γ i) _ t (and_from _ _ c (and_from _ _ (has (Γ a) _ x f) refl)))
  sets_pass p γ i l t c (reads_two_slots {a = a} {b = b} x f y h) =
      true_passes _ _ (has (Γ i) _ t (and_from _ _ c (and_from _ _ (has (Γ a) _ x f) (and_from _ _ (has (Γ b) _ y h) refl))))

  -- the control label inside a block whose guard is listed
  within : {γ g l : ℕ} → Γ g ≡ Some l → inside joins Γ γ g ≡ joins γ l
  within {γ} e = ap (raised joins γ) e

  branch : {p γ g l : ℕ} {a : Block} → Γ g ≡ Some l → Typed flows joins Γ p (inside joins Γ γ g) a → Typed flows joins Γ p (joins γ l) a
  branch {p} {γ} {g} {l} {a} e t = subst (λ (k : ℕ). Typed flows joins Γ p k a) (within e) t

  inner : (p γ : ℕ) (a : Block) {g l : ℕ} → Γ g ≡ Some l → Passed (verdicts flows joins Γ p (joins γ l) a) → Passed (verdicts flows joins Γ p (inside joins Γ γ g) a)
  inner p γ a e h = subst (λ (k : ℕ). Passed (verdicts flows joins Γ p k a)) (sym (within e)) h

  typed : (p γ : ℕ) (b : Block) → Passed (verdicts flows joins Γ p γ b) → Typed flows joins Γ p γ b
  typed p γ nil h = typed_nil
  typed p γ (simple skip rest) h = typed_skip (typed p γ rest (passed_tail h))
  typed p γ (simple (assign i e) rest) h =
      let s = sets p γ i e (passed_head h) in
      typed_assign s.listed s.control s.reads (typed p γ rest (passed_tail h))
  typed p γ (when g a rest) h =
      let t = listed_label (Γ g) (passes_true _ _ (passed_head h)) in
      let va = verdicts flows joins Γ p (inside joins Γ γ g) a in
      typed_when t.1 (branch t.1 (typed p (inside joins Γ γ g) a (passed_front va _ (passed_tail h))))
      (typed p γ rest (passed_tail (passed_back va _ (passed_tail h))))
  typed p γ (either g a b rest) h =
      let t = listed_label (Γ g) (passes_true _ _ (passed_head h)) in
      let va = verdicts flows joins Γ p (inside joins Γ γ g) a in
      let vb = verdicts flows joins Γ p (inside joins Γ γ g) b in
      let second = passed_tail (passed_back va _ (passed_tail h)) in
      typed_either t.1 (branch t.1 (typed p (inside joins Γ γ g) a (passed_front va _ (passed_tail h))))
      (branch t.1 (typed p (inside joins Γ γ g) b (passed_front vb _ second)))
      (typed p γ rest (passed_tail (passed_back vb _ second)))
  typed p γ (while g a rest) h =
      let t = label_of (Γ g) (λ l. flows (joins γ l) p) (passes_true _ _ (passed_head h)) in
      let va = verdicts flows joins Γ p (inside joins Γ γ g) a in
      typed_while t.1 t.2 (branch t.1 (typed p (inside joins Γ γ g) a (passed_front va _ (passed_tail h))))
      (typed p γ rest (passed_tail (passed_back va _ (passed_tail h))))

  passed : (p γ : ℕ) {b : Block} → Typed flows joins Γ p γ b → Passed (verdicts flows joins Γ p γ b)
  passed p γ typed_nil = none
  passed p γ (typed_skip t) = next (passed p γ t)
  passed p γ (typed_assign {i = i} {l = l} e c r t) = passed_cons _ (sets_pass p γ i l e c r) (passed p γ t)
  passed p γ (typed_when {g = g} {a = a} e x t) =
      passed_cons _ (true_passes _ _ (is (Γ g) e))
      (passed_append (inner p γ a e (passed p _ x)) (next (passed p γ t)))
  passed p γ (typed_either {g = g} {a = a} {b = b} e x y t) =
      passed_cons _ (true_passes _ _ (is (Γ g) e))
      (passed_append (inner p γ a e (passed p _ x)) (next (passed_append (inner p γ b e (passed p _ y)) (next (passed p γ t)))))
  passed p γ (typed_while {g = g} {a = a} e f x t) =
      passed_cons _ (true_passes _ _ (has (Γ g) _ e f))
      (passed_append (inner p γ a e (passed p _ x)) (next (passed p γ t)))

  one_each : (p γ : ℕ) (b : Block) → length (verdicts flows joins Γ p γ b) ≡ length (listing b)
  one_each p γ nil = refl
  one_each p γ (simple s rest) = ap suc (one_each p γ rest)
  one_each p γ (when g a rest) =
      let x = one_each p (inside joins Γ γ g) a in
      let y = one_each p γ rest in
      simp length-append (cc)
  one_each p γ (either g a b rest) =
      let x = one_each p (inside joins Γ γ g) a in
      let y = one_each p (inside joins Γ γ g) b in
      let z = one_each p γ rest in
      simp length-append (cc)
  one_each p γ (while g a rest) =
      let x = one_each p (inside joins Γ γ g) a in
      let y = one_each p γ rest in
      simp length-append (cc)

-- from the first row on, the place of a verdict is the row's number
first_at : {vs : List (Option RowReason)} (fault : RowFault) → First vs 0 fault →
    (get_or vs fault.row None ≡ Some fault.reason) × ((i : ℕ) → i < fault.row → get_or vs i None ≡ None)
first_at {vs} fault first =
    let same : first.j ≡ fault.row = omega (arith, first.row_is) in
    (subst (λ (n : ℕ). get_or vs n None ≡ Some fault.reason) same first.here, λ i h. first.before i (omega arith))

pub judged_exactly : JudgedExactly
judged_exactly flows joins Γ = record {
  one_for_each_row = one_each flows joins Γ;
  all_pass = λ p γ b. (λ h. typed flows joins Γ p γ b (places_passed _ h), λ t. passed_places (passed flows joins Γ p γ t));
  none_at_fault = λ p b. (λ h. typed flows joins Γ p p b (faultless_passed _ 0 h), λ t. passed_faultless (passed flows joins Γ p p t) 0);
  first_at_fault = λ p b fault. (
    λ h. first_at fault (fault_first (verdicts flows joins Γ p p b) 0 fault h),
    λ h. first_faults (verdicts flows joins Γ p p b) 0 fault.row fault.row fault.reason (omega arith) h.0 h.1,
  );
}
