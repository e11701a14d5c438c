-- What a put changes, and what it leaves. Assumes nothing.
use Rattle.std.proofs.Common.{◌≡◌, ℕ, zero, suc, ◌<◌, List, [], ◌∷◌, length, get_or, ℤ, refl, ap}
use Rattle.std.proofs.lemmas.List.{length-set, get_or-set_same, get_or-set_other, set_past}
use Rattle.table.specs.declared.table.Slot.{Slot}
use Rattle.table.specs.Slots.{blank, value_at, label_at, with_value, put}
use Rattle.table.specs.Words.{Puts}

pub size_put : (s : List Slot) (i : ℕ) (v : ℤ) → length (put s i v) ≡ length s
size_put s i v = length-set s i (with_value (get_or s i blank) v)

pub value_put : (s : List Slot) (i : ℕ) (v : ℤ) → i < length s → value_at (put s i v) i ≡ v
value_put s i v h = ap (λ (x : Slot). x.value) (get_or-set_same s i (with_value (get_or s i blank) v) blank h)

pub value_put_other : (s : List Slot) (i j : ℕ) (v : ℤ) → (j ≡ i → ⊥) → value_at (put s i v) j ≡ value_at s j
value_put_other s i j v n = ap (λ (x : Slot). x.value) (get_or-set_other s i j (with_value (get_or s i blank) v) blank n)

pub label_put : (s : List Slot) (i j : ℕ) (v : ℤ) → label_at (put s i v) j ≡ label_at s j
label_put [] i j v = refl
label_put (x ∷ s) zero zero v = refl
label_put (x ∷ s) zero (suc j) v = refl
label_put (x ∷ s) (suc i) zero v = refl
label_put (x ∷ s) (suc i) (suc j) v = label_put s i j v

pub puts : Puts
puts = record {
  there = value_put;
  elsewhere = value_put_other;
  labels = label_put;
  size = size_put;
  past = λ s i v h. set_past s i (with_value (get_or s i blank) v) h;
}
