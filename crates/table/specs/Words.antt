-- What a put changes, and what it leaves. Assumes nothing.
use Rattle.std.specs.Prelude.{◌≡◌, ℕ, ◌<◌, ◌≤◌, List, length, ℤ, ◌≢◌}
use Rattle.table.specs.declared.table.Slot.{Slot}
use Rattle.table.specs.Slots.{value_at, label_at, put}

pub record Puts : Type 0 where
  -- the slot has the value that was put
  pub there : (s : List Slot) (i : ℕ) (v : ℤ) → i < length s → value_at (put s i v) i ≡ v
  -- every other slot keeps its value
  pub elsewhere : (s : List Slot) (i j : ℕ) (v : ℤ) → (j ≢ i) → value_at (put s i v) j ≡ value_at s j
  -- every slot keeps its label
  pub labels : (s : List Slot) (i j : ℕ) (v : ℤ) → label_at (put s i v) j ≡ label_at s j
  -- there are as many slots as before
  pub size : (s : List Slot) (i : ℕ) (v : ℤ) → length (put s i v) ≡ length s
  -- and past the last slot nothing changes
  pub past : (s : List Slot) (i : ℕ) (v : ℤ) → length s ≤ i → put s i v ≡ s
