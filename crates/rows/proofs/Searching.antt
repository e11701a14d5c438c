-- The first byte of a row, in order, of which a test is true.
use Rattle.std.proofs.Common.{◌≡◌, ℕ, Bool, true, false, ltb, Option, option_map, List, [], ◌∷◌, ◌++◌, map, Some, None, filter, refl, sym, ap, ◌∙◌, cond}
use Rattle.std.specs.List.{find, range_with_len}
use Rattle.std.specs.Option.{option_or}
use Rattle.rows.specs.Kinds.{kind_number}
use Rattle.rows.specs.Reading.{byte_at, bytes_where, complaints, first, kind_complaints, operation_complaints, rest_complaints, slot_complaints}
use Rattle.rows.specs.declared.kind.RowKind.{RowKind}
use Rattle.rows.specs.declared.kind.RowKind.TheVariants.{Idle, PutConstant, SlotWithConstant, TwoSlots, If, Else, While, End}
use Rattle.rows.specs.declared.fault.RowReason.{RowReason}

first_filtered : (f : ℕ → RowReason) (t : ℕ → Bool) (xs : List ℕ) → first (map f (filter t xs)) ≡ option_map f (find t xs)
first_filtered f t [] = refl
first_filtered f t (x ∷ xs) =
    elim (t x) as (λ z. first (map f (cond z (x ∷ filter t xs) (filter t xs))) ≡ option_map f (cond z (Some x) (find t xs)))
    [ true ↦ refl | false ↦ first_filtered f t xs ]

-- what a search through the bytes found is the first of which the test is true
pub found_is_first : (f : ℕ → RowReason) (t : ℕ → Bool) (found : Option ℕ) → option_map (λ byte. byte) found ≡ find t (range_with_len 0 8) →
    option_map f found ≡ first (map f (bytes_where t))
found_is_first f t None e = ap (option_map f) e ∙ sym (first_filtered f t (range_with_len 0 8))
found_is_first f t (Some byte) e = ap (option_map f) e ∙ sym (first_filtered f t (range_with_len 0 8))

-- the first of four lists, one behind the other
pub first_of_four : (a b c d : List RowReason) →
    option_or (option_or (first a) (first b)) (option_or (first c) (first d)) ≡ first (a ++ b ++ c ++ d)
first_of_four (x ∷ a) b c d = refl
first_of_four [] (x ∷ b) c d = refl
first_of_four [] [] (x ∷ c) d = refl
first_of_four [] [] [] d = refl

kind_is_known : (kind : RowKind) (n : ℕ) → kind_number kind ≡ n → ltb 7 n ≡ false
kind_is_known Idle n e = rw (← e) refl
kind_is_known PutConstant n e = rw (← e) refl
kind_is_known SlotWithConstant n e = rw (← e) refl
kind_is_known TwoSlots n e = rw (← e) refl
kind_is_known If n e = rw (← e) refl
kind_is_known Else n e = rw (← e) refl
kind_is_known While n e = rw (← e) refl
kind_is_known End n e = rw (← e) refl

-- of a known kind, and with nothing against the operation, what first speaks against the bytes is told by the slots and the rest
pub bytes_are_left : (kind : RowKind) (lists : ℕ → Bool) (bytes : List ℕ) → kind_number kind ≡ byte_at bytes 0 → None ≡ first (operation_complaints bytes) →
    option_or (first (slot_complaints lists bytes)) (first (rest_complaints bytes)) ≡ first (complaints lists bytes)
bytes_are_left kind lists bytes known none =
    let k = kind_is_known kind (byte_at bytes 0) known in
    rw (← first_of_four (kind_complaints bytes) (operation_complaints bytes) (slot_complaints lists bytes) (rest_complaints bytes), k, ← none) refl
