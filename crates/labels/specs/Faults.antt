-- The numbers of the faults that whoever sets up a scheme can meet, and what a constructor answers. Assumes nothing.
use Rattle.std.specs.Prelude.{◌≡◌, ℕ, Bool, true, false, ◌&&◌, Ok, Err, Result, nat_le}
use Rattle.labels.specs.declared.fault.SchemeFault.{SchemeFault}
use Rattle.labels.specs.declared.fault.SchemeFault.TheVariants.{Size}

abbrev pub scheme_fault_number : SchemeFault → ℕ
scheme_fault_number Size = 7

-- a size from 1 to the most that there may be
abbrev pub in_range : ℕ → ℕ → Bool
in_range most n = nat_le 1 n && nat_le n most

-- A constructor that is asked for size n builds a scheme of just that size if n is in range, and otherwise refuses and builds nothing.
abbrev pub Built : {S : Type 0} → ℕ → ℕ → (S → ℕ) → Result S SchemeFault → Type 0
Built most n size_of (Ok s) = (in_range most n ≡ true) × (size_of s ≡ n)
Built most n size_of (Err fault) = (in_range most n ≡ false) × (fault ≡ Size)
