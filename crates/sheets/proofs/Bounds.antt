-- A slot that is listed is one of the 64. Assumes nothing.
use Rattle.std.proofs.Common.{◌≡◌, ℕ, zero, suc, ◌<◌, Bool, true, ◌&&◌, List, [], ◌∷◌, length, IfOk, Ok, Err, Result, sym, refl, ap₂, arith, lt-ltb}
use Rattle.std.specs.List.{AllByRecursion}
use Rattle.table.specs.Slots.{listed}
use Rattle.table.specs.declared.table.Slot.{Slot}
use Rattle.rows.proofs.Acceptance.{rows_are_read}
use Rattle.rows.specs.Reading.{read_row}
use Rattle.rows.specs.Writing.{slots_of}
use Rattle.rows.specs.declared.fault.RowFault.{RowFault}
use Rattle.rows.specs.declared.row.Row.{Row}
use Rattle.sheets.specs.Reading.{in_range}

listed_below : (slots : List Slot) (k : ℕ) → listed slots k ≡ true → k < length slots
listed_below [] k e = let z : ◌≡◌ {A = ℕ} 0 1 = cc in absurd (omega arith)
listed_below (s ∷ slots) zero e = omega arith
listed_below (s ∷ slots) (suc k) e = omega (arith, listed_below slots k e)

pub listed_in_range : (slots : List Slot) (ks : List ℕ) → length slots ≡ 64 → AllByRecursion (λ k. listed slots k ≡ true) ks → in_range ks ≡ true
listed_in_range slots [] long h = refl
listed_in_range slots (k ∷ ks) long h =
    ap₂ (λ (a b : Bool). a && b) (lt-ltb k 64 (omega (arith, long, listed_below slots k h.0))) (listed_in_range slots ks long h.1)

-- the slots of a row that is read
pub read_in_range : (slots : List Slot) (i : ℕ) (bytes : List ℕ) → length slots ≡ 64 → length bytes ≡ 8 → AllByRecursion (λ byte. byte < 256) bytes → (s : Result Row RowFault) → s ≡ read_row (listed slots) i bytes → IfOk s (λ r. in_range (slots_of r) ≡ true)
read_in_range slots i bytes long eight small (Err f) e = tt
read_in_range slots i bytes long eight small (Ok r) e =
    listed_in_range slots (slots_of r) long ((rows_are_read (listed slots) i bytes r eight small).only_written (sym e)).listed_slots
