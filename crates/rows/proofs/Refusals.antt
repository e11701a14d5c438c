-- Eight bytes with a fault are refused, by the first of their faults.
use Rattle.std.proofs.Common.{◌≡◌, ℕ, zero, suc, ◌+◌, filter, below_more, ◌<◌, ◌≤◌, Bool, true, false, cond, not, eqb, ltb, List, [], ◌∷◌, map, Some, None, Ok, Err, Option, refl, subst, inl, inr, ⊎_elim, arith}
use Rattle.std.proofs.lemmas.Bool.{and_from, and_parts, both_ways, cases_Bool, cases_lt, eqb-false, lt-ltb, ltb-true, ne_eqb, not_from_false, not-true}
use Rattle.std.specs.Option.{option_or}
use Rattle.std.specs.List.{range_with_len}
use Rattle.rows.proofs.Searching.{first_of_four}
use Rattle.rows.specs.Kinds.{is_operation, is_slot, is_unused}
use Rattle.rows.specs.Reading.{answered, byte_at, bytes_where, complaints, first, kind_complaints, no_kind, no_operation, not_listed, not_zero, operation_complaints, rest_complaints, row_from, slot_complaints, use_at}
use Rattle.rows.specs.Refusing.{Against, FirstFault, NoLater, RowsAreRefused}
use Rattle.rows.specs.Refusing.Against.{kind_above, operation_above, slot_not_listed, unused_not_zero}
use Rattle.rows.specs.declared.fault.RowFault.{RowFault}
use Rattle.rows.specs.declared.fault.RowReason.{RowReason}
use Rattle.rows.specs.declared.fault.RowReason.TheVariants.{Kind, Operation, NotListed, NotZero}
use Rattle.rows.specs.declared.row.Row.{Row}

-- what the bytes are told of one fault: the first reason, if any, and what that says of the tests
data Told (f : ℕ → RowReason) (t : ℕ → Bool) : Option RowReason → Type 0 where
  none : ((k : ℕ) → k < 8 → t k ≡ false) → Told f t None
  one : (k : ℕ) → k < 8 → ((j : ℕ) → j < k → t j ≡ false) → t k ≡ true → Told f t (Some (f k))

-- from byte a on, of which there are n, where none before passes
look : (f : ℕ → RowReason) (t : ℕ → Bool) (a n : ℕ) → a + n ≡ 8 → ((k : ℕ) → k < a → t k ≡ false) → Told f t (first (map f (filter t (range_with_len a n))))
look f t a zero e before = none (λ k l. before k (omega arith))
look f t a (suc n) e before =
    ⊎_elim (λ h. rw h (one a (omega arith) before h))
    (λ h. rw h (look f t (a + 1) n (omega arith) (below_more (λ k. t k ≡ false) a before h)))
    (cases_Bool (t a))

told : (f : ℕ → RowReason) (t : ℕ → Bool) → Told f t (first (map f (bytes_where t)))
told f t = look f t 0 8 refl (λ k l. absurd (omega arith))

first_least : (t : ℕ → Bool) (k j : ℕ) → ((i : ℕ) → i < k → t i ≡ false) → t j ≡ true → k ≤ j
first_least t k j before e = ⊎_elim (λ l. absurd (both_ways (t j) (before j l) e)) (λ l. l) (cases_lt j k)

abbrev pub NoFault : (ℕ → Bool) → List ℕ → Type 0
NoFault lists bytes = (reason : RowReason) → Against lists bytes reason → ⊥

-- what the first complaint, if any, says of the bytes
pub data Settled (lists : ℕ → Bool) (bytes : List ℕ) : Option RowReason → Type 0 where
  clear : NoFault lists bytes → Settled lists bytes None
  faulty : (reason : RowReason) → FirstFault lists bytes reason → Settled lists bytes (Some reason)

module _ (lists : ℕ → Bool) (bytes : List ℕ) where
  -- the tests of the reader tell the faults
  by_fault : (P : RowReason → Type 0) → (no_kind bytes ≡ true → P Kind) → (no_operation bytes ≡ true → P Operation) →
      ((k : ℕ) → k < 8 → not_listed lists bytes k ≡ true → P (NotListed k)) → ((k : ℕ) → k < 8 → not_zero bytes k ≡ true → P (NotZero k)) →
      (reason : RowReason) → Against lists bytes reason → P reason
  by_fault P a b c d _ (kind_above l) = a (lt-ltb 7 (byte_at bytes 0) l)
  by_fault P a b c d _ (operation_above u l) = b (and_from (is_operation (use_at bytes 1)) (ltb 7 (byte_at bytes 1)) u (lt-ltb 7 (byte_at bytes 1) l))
  by_fault P a b c d _ (slot_not_listed k l u e) =
      c k l (and_from (is_slot (use_at bytes k)) (not (lists (byte_at bytes k))) u (not_from_false (lists (byte_at bytes k)) e))
  by_fault P a b c d _ (unused_not_zero k l u ne) =
      d k l (and_from (is_unused (use_at bytes k)) (not (eqb (byte_at bytes k) 0)) u (not_from_false (eqb (byte_at bytes k) 0) (ne_eqb (byte_at bytes k) 0 ne)))

  operation_stands : no_operation bytes ≡ true → Against lists bytes Operation
  operation_stands e =
      let p = and_parts (is_operation (use_at bytes 1)) (ltb 7 (byte_at bytes 1)) e in
      operation_above p.0 (ltb-true 7 (byte_at bytes 1) p.1)

  slot_stands : (k : ℕ) → k < 8 → not_listed lists bytes k ≡ true → Against lists bytes (NotListed k)
  slot_stands k l e =
      let p = and_parts (is_slot (use_at bytes k)) (not (lists (byte_at bytes k))) e in
      slot_not_listed k l p.0 (not-true (lists (byte_at bytes k)) p.1)

  rest_stands : (k : ℕ) → k < 8 → not_zero bytes k ≡ true → Against lists bytes (NotZero k)
  rest_stands k l e =
      let p = and_parts (is_unused (use_at bytes k)) (not (eqb (byte_at bytes k) 0)) e in
      unused_not_zero k l p.0 (eqb-false (byte_at bytes k) 0 (not-true (eqb (byte_at bytes k) 0) p.1))

  settle : (a : Bool) → no_kind bytes ≡ a → (b : Bool) → no_operation bytes ≡ b → {c d : Option RowReason} →
      Told NotListed (not_listed lists bytes) c → Told NotZero (not_zero bytes) d →
      Settled lists bytes (option_or (option_or (first (cond a (Kind ∷ []) [])) (first (cond b (Operation ∷ []) []))) (option_or c d))
  settle true p b q x y =
      faulty Kind
      (record {
        stands = kind_above (ltb-true 7 (byte_at bytes 0) p);
        earliest = by_fault (NoLater Kind) (λ e. inr (refl, omega arith)) (λ e. inl (omega arith)) (λ k l e. inl (omega arith)) (λ k l e. inl (omega arith));
      })
  settle false p true q x y =
      faulty Operation
      (record {
        stands = operation_stands q;
        earliest =
            by_fault (NoLater Operation) (λ e. absurd (both_ways (no_kind bytes) p e)) (λ e. inr (refl, omega arith)) (λ k l e. inl (omega arith)) (λ k l e. inl (omega arith));
      })
  settle false p false q (one k l before e) y =
      faulty (NotListed k)
      (record {
        stands = slot_stands k l e;
        earliest =
            by_fault (NoLater (NotListed k)) (λ e. absurd (both_ways (no_kind bytes) p e)) (λ e. absurd (both_ways (no_operation bytes) q e))
            (λ j m z. inr (refl, first_least (not_listed lists bytes) k j before z)) (λ j m z. inl (omega arith));
      })
  settle false p false q (none s) (one k l before e) =
      faulty (NotZero k)
      (record {
        stands = rest_stands k l e;
        earliest =
            by_fault (NoLater (NotZero k)) (λ e. absurd (both_ways (no_kind bytes) p e)) (λ e. absurd (both_ways (no_operation bytes) q e))
            (λ j m z. absurd (both_ways (not_listed lists bytes j) (s j m) z)) (λ j m z. inr (refl, first_least (not_zero bytes) k j before z));
      })
  settle false p false q (none s) (none r) =
      clear
      (by_fault (λ _. ⊥) (both_ways (no_kind bytes) p) (both_ways (no_operation bytes) q) (λ j m z. both_ways (not_listed lists bytes j) (s j m) z)
      (λ j m z. both_ways (not_zero bytes j) (r j m) z))

  pub settled : Settled lists bytes (first (complaints lists bytes))
  settled =
      subst (Settled lists bytes)
      (first_of_four (kind_complaints bytes) (operation_complaints bytes) (slot_complaints lists bytes) (rest_complaints bytes))
      (settle (no_kind bytes) refl (no_operation bytes) refl (told NotListed (not_listed lists bytes)) (told NotZero (not_zero bytes)))

refusal : {lists : ℕ → Bool} {bytes : List ℕ} (number : ℕ) (row : Row) (found : Option RowReason) → Settled lists bytes found →
    ((reason : RowReason) → Against lists bytes reason → (fault : RowFault) × (answered number row found ≡ Err fault))
    × ((fault : RowFault) → answered number row found ≡ Err fault → (fault.row ≡ number) × FirstFault lists bytes fault.reason)
refusal number row _ (clear no_fault) =
    (λ reason h. absurd (no_fault reason h), λ fault e. absurd cc)
refusal {lists} {bytes} number row _ (faulty reason h) = (
  λ other against. (record { row = number; reason = reason }, refl),
  λ fault e.
      let same : ◌≡◌ {A = RowFault} (record { row = number; reason = reason }) fault = cc in
      subst (λ f. (f.row ≡ number) × FirstFault lists bytes f.reason) same (refl, h),
)

-- what is accepted has no fault, and is the row that was to be answered
pub accepted : {lists : ℕ → Bool} {bytes : List ℕ} (number : ℕ) (row other : Row) {found : Option RowReason} → Settled lists bytes found →
    answered number row found ≡ Ok other → NoFault lists bytes × (row ≡ other)
accepted number row other (clear no_fault) e = (no_fault, cc)
accepted number row other (faulty reason h) e = absurd cc

pub rows_are_refused : RowsAreRefused
rows_are_refused lists number bytes =
    let r = refusal number (row_from bytes) (first (complaints lists bytes)) (settled lists bytes) in
    record { faulty = r.0; given = r.1 }
