-- A constant and its four bytes.
use Rattle.std.proofs.Common.{◌≡◌, ℕ, ◌+◌, ◌*◌, ◌/◌, ◌%◌, ◌^◌, ◌<◌, List, [], ◌∷◌, ℤ, arith, w32, SFits, to_z, of_z}
use mir.ValLaws.{of_z_fits}
use Rattle.std.proofs.Math.Facts.{sfits_to_z}
use Rattle.std.proofs.lemmas.Int.{of_z-to_z, to_z-of_z}
use Rattle.operations.proofs.Ranges.{of_fits, to_fits}
use Rattle.operations.specs.Words.{Value}
use Rattle.rows.specs.Writing.{constant_bytes}

abbrev pub joined : ℕ → ℕ → ℕ → ℕ → ℕ
joined a b c d = a * 2 ^ 24 + b * 2 ^ 16 + c * 2 ^ 8 + d

pub four : {a b c d a' b' c' d' : ℕ} → a ≡ a' → b ≡ b' → c ≡ c' → d ≡ d' → ◌≡◌ {A = List ℕ} (a ∷ b ∷ c ∷ d ∷ []) (a' ∷ b' ∷ c' ∷ d' ∷ [])
four p q r s = cc

module _ (a b c d : ℕ) (la : a < 256) (lb : b < 256) (lc : c < 256) (ld : d < 256) where
  joined_fits : joined a b c d < 2 ^ 32
  joined_fits = omega arith

  pub bytes_joined : constant_bytes (to_z w32 (joined a b c d)) ≡ a ∷ b ∷ c ∷ d ∷ []
  bytes_joined =
      rw (of_z-to_z w32 (joined a b c d) joined_fits)
      (four (omega arith) (omega arith) (omega arith) (omega arith))

  pub joined_is_value : Value (to_z w32 (joined a b c d))
  joined_is_value = of_fits _ (sfits_to_z (record { fits = joined_fits }))

pub joined_bytes : (z : ℤ) → Value z →
    to_z w32 (joined (of_z w32 z / 2 ^ 24) (of_z w32 z / 2 ^ 16 % 256) (of_z w32 z / 2 ^ 8 % 256) (of_z w32 z % 256)) ≡ z
joined_bytes z v =
    let fits : SFits w32 z = to_fits z v in
    let small = of_z_fits w32 z fits in
    let whole : joined (of_z w32 z / 2 ^ 24) (of_z w32 z / 2 ^ 16 % 256) (of_z w32 z / 2 ^ 8 % 256) (of_z w32 z % 256) ≡ of_z w32 z = omega arith in
    rw whole (to_z-of_z w32 z fits)
