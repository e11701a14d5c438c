-- Eight bytes are read as a row exactly if they write it.
use Rattle.std.proofs.Common.{◌≡◌, ℕ, zero, suc, ◌<◌, ◌≤◌, Bool, true, false, ◌&&◌, ltb, List, [], ◌∷◌, map, length, Ok, unwrap_or, sym, refl, subst, ⊎_elim, arith}
use Rattle.std.proofs.lemmas.List.FromFn.{fill_by_all}
use Rattle.std.proofs.lemmas.Bool.{and_parts, cases_Bool, cases_eq, cases_lt, ltb-true}
use Rattle.std.specs.List.{range_with_len, AllByRecursion}
use Rattle.operations.specs.Operations.{numbered}
use Rattle.operations.specs.Words.{Value}
use Rattle.operations.specs.declared.operation.Operation.{Operation}
use Rattle.operations.specs.declared.operation.Operation.TheVariants.{Sum, Difference, Product, Share, Equal, Less, Differing, Lesser}
use Rattle.rows.proofs.Constants.{bytes_joined, four, joined_bytes, joined_is_value}
use Rattle.rows.proofs.Refusals.{NoFault, accepted, settled}
use Rattle.rows.specs.Kinds.{is_operation, is_slot, is_unused}
use Rattle.rows.specs.Reading.{byte_at, read_row, row_from, use_at}
use Rattle.rows.specs.Refusing.Against.{kind_above, operation_above, slot_not_listed, unused_not_zero}
use Rattle.rows.specs.Writing.{Writes, RowsAreRead, bytes_of, constants_of, operation_number, slots_of}
use Rattle.rows.specs.declared.fault.RowReason.TheVariants.{Kind, Operation as OperationFault, NotListed, NotZero}
use Rattle.rows.specs.declared.row.Row.{Row}
use Rattle.rows.specs.declared.row.Row.TheVariants.{Idle, PutConstant, SlotWithConstant, TwoSlots, If, Else, While, End}

module _ {lists : ℕ → Bool} {bytes : List ℕ} (clear : NoFault lists bytes) where
  kind_is_one : byte_at bytes 0 ≤ 7
  kind_is_one = ⊎_elim (λ l. absurd (clear Kind (kind_above l))) (λ l. l) (cases_lt 7 (byte_at bytes 0))

  operation_is_one : is_operation (use_at bytes 1) ≡ true → byte_at bytes 1 ≤ 7
  operation_is_one u = ⊎_elim (λ l. absurd (clear OperationFault (operation_above u l))) (λ l. l) (cases_lt 7 (byte_at bytes 1))

  names : (k : ℕ) → (ltb k 8 && is_slot (use_at bytes k)) ≡ true → lists (byte_at bytes k) ≡ true
  names k e =
      let p = and_parts (ltb k 8) (is_slot (use_at bytes k)) e in
      ⊎_elim (λ l. l) (λ l. absurd (clear (NotListed k) (slot_not_listed k (ltb-true k 8 p.0) p.1 l))) (cases_Bool (lists (byte_at bytes k)))

  unused : (k : ℕ) → (ltb k 8 && is_unused (use_at bytes k)) ≡ true → byte_at bytes k ≡ 0
  unused k e =
      let p = and_parts (ltb k 8) (is_unused (use_at bytes k)) e in
      ⊎_elim (λ z. z) (λ ne. absurd (clear (NotZero k) (unused_not_zero k (ltb-true k 8 p.0) p.1 ne))) (cases_eq (byte_at bytes k) 0)

operation_back : (n : ℕ) → n ≤ 7 → operation_number (unwrap_or (numbered n) Sum) ≡ n
operation_back zero l = refl
operation_back (suc zero) l = refl
operation_back (suc (suc zero)) l = refl
operation_back (suc (suc (suc zero))) l = refl
operation_back (suc (suc (suc (suc zero)))) l = refl
operation_back (suc (suc (suc (suc (suc zero))))) l = refl
operation_back (suc (suc (suc (suc (suc (suc zero)))))) l = refl
operation_back (suc (suc (suc (suc (suc (suc (suc zero))))))) l = refl
operation_back (suc (suc (suc (suc (suc (suc (suc (suc n)))))))) l = absurd (omega arith)

front : {o t f o' t' f' : ℕ} {r r' : List ℕ} (k : ℕ) → o ≡ o' → t ≡ t' → f ≡ f' → r ≡ r' →
    ◌≡◌ {A = List ℕ} (k ∷ o ∷ t ∷ f ∷ r) (k ∷ o' ∷ t' ∷ f' ∷ r')
front k p q r s = cc

-- what is read was written, kind by kind
module _ (lists : ℕ → Bool) (o t f a b c d : ℕ) (la : a < 256) (lb : b < 256) (lc : c < 256) (ld : d < 256) where
  read_writes : (k : ℕ) → (h : NoFault lists (k ∷ o ∷ t ∷ f ∷ a ∷ b ∷ c ∷ d ∷ [])) →
      Writes lists (k ∷ o ∷ t ∷ f ∷ a ∷ b ∷ c ∷ d ∷ []) (row_from (k ∷ o ∷ t ∷ f ∷ a ∷ b ∷ c ∷ d ∷ []))
  read_writes zero h =
      record {
        written = front 0 (unused h 1 refl) (unused h 2 refl) (unused h 3 refl) (four (unused h 4 refl) (unused h 5 refl) (unused h 6 refl) (unused h 7 refl));
        listed_slots = tt;
        values = tt;
      }
  read_writes (suc zero) h =
      record {
        written = front 1 (unused h 1 refl) refl (unused h 3 refl) (sym (bytes_joined a b c d la lb lc ld));
        listed_slots = (names h 2 refl, tt);
        values = (joined_is_value a b c d la lb lc ld, tt);
      }
  read_writes (suc (suc zero)) h =
      record {
        written = front 2 (sym (operation_back o (operation_is_one h refl))) refl refl (sym (bytes_joined a b c d la lb lc ld));
        listed_slots = (names h 2 refl, (names h 3 refl, tt));
        values = (joined_is_value a b c d la lb lc ld, tt);
      }
  read_writes (suc (suc (suc zero))) h =
      record {
        written = front 3 (sym (operation_back o (operation_is_one h refl))) refl refl (four (unused h 4 refl) (unused h 5 refl) (unused h 6 refl) refl);
        listed_slots = (names h 2 refl, (names h 3 refl, (names h 7 refl, tt)));
        values = tt;
      }
  read_writes (suc (suc (suc (suc zero)))) h =
      record {
        written = front 4 (unused h 1 refl) (unused h 2 refl) refl (four (unused h 4 refl) (unused h 5 refl) (unused h 6 refl) (unused h 7 refl));
        listed_slots = (names h 3 refl, tt);
        values = tt;
      }
  read_writes (suc (suc (suc (suc (suc zero))))) h =
      record {
        written = front 5 (unused h 1 refl) (unused h 2 refl) (unused h 3 refl) (four (unused h 4 refl) (unused h 5 refl) (unused h 6 refl) (unused h 7 refl));
        listed_slots = tt;
        values = tt;
      }
  read_writes (suc (suc (suc (suc (suc (suc zero)))))) h =
      record {
        written = front 6 (unused h 1 refl) (unused h 2 refl) refl (four (unused h 4 refl) (unused h 5 refl) (unused h 6 refl) (unused h 7 refl));
        listed_slots = (names h 3 refl, tt);
        values = tt;
      }
  read_writes (suc (suc (suc (suc (suc (suc (suc zero))))))) h =
      record {
        written = front 7 (unused h 1 refl) (unused h 2 refl) (unused h 3 refl) (four (unused h 4 refl) (unused h 5 refl) (unused h 6 refl) (unused h 7 refl));
        listed_slots = tt;
        values = tt;
      }
  read_writes (suc (suc (suc (suc (suc (suc (suc (suc n)))))))) h = absurd (omega (arith, kind_is_one h))

operation_numbered : (operation : Operation) →
    (ltb 7 (operation_number operation) ≡ false) × (unwrap_or (numbered (operation_number operation)) Sum ≡ operation)
operation_numbered Sum = (refl, refl)
operation_numbered Difference = (refl, refl)
operation_numbered Product = (refl, refl)
operation_numbered Share = (refl, refl)
operation_numbered Equal = (refl, refl)
operation_numbered Less = (refl, refl)
operation_numbered Differing = (refl, refl)
operation_numbered Lesser = (refl, refl)

-- what is written is read
module _ (lists : ℕ → Bool) (number : ℕ) where
  write_reads : (row : Row) → AllByRecursion (λ slot. lists slot ≡ true) (slots_of row) →
      AllByRecursion Value (constants_of row) →
      read_row lists number (bytes_of row) ≡ Ok row
  write_reads Idle s v = refl
  write_reads (PutConstant target constant) s v = rw (s.0, joined_bytes constant v.0)
  write_reads (SlotWithConstant operation target first constant) s v =
      let e = operation_numbered operation in
      rw (e.0, e.1, s.0, s.1.0, joined_bytes constant v.0)
  write_reads (TwoSlots operation target first second) s v =
      let e = operation_numbered operation in
      rw (e.0, e.1, s.0, s.1.0, s.1.1.0)
  write_reads (If guard) s v = rw s.0
  write_reads Else s v = refl
  write_reads (While guard) s v = rw s.0
  write_reads End s v = refl

-- eight bytes, one by one
eight : (bytes : List ℕ) → length bytes ≡ 8 → bytes ≡ map (byte_at bytes) (range_with_len 0 8)
eight bytes e = fill_by_all (byte_at bytes) bytes 8 0 e (λ k l. refl)

clear_writes : (lists : ℕ → Bool) (bytes : List ℕ) → length bytes ≡ 8 → AllByRecursion (λ byte. byte < 256) bytes → NoFault lists bytes → Writes lists bytes (row_from bytes)
clear_writes lists bytes e =
    subst (λ bs. AllByRecursion (λ byte. byte < 256) bs → NoFault lists bs → Writes lists bs (row_from bs)) (sym (eight bytes e))
    (λ small h.
    let tail = small.1.1.1.1 in
    read_writes lists _ _ _ _ _ _ _ tail.0 tail.1.0 tail.1.1.0 tail.1.1.1.0 _ h)

pub rows_are_read : RowsAreRead
rows_are_read lists number bytes row e small =
    record {
      only_written = λ r.
          let p = accepted number (row_from bytes) row (settled lists bytes) r in
          subst (Writes lists bytes) p.1 (clear_writes lists bytes e small p.0);
      all_written = λ w.
          subst (λ bs. read_row lists number bs ≡ Ok row) (sym w.written) (write_reads lists number row w.listed_slots w.values);
    }
