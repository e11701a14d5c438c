-- The laws of a scheme that noninterference rests on. Assumes nothing.
use Rattle.std.proofs.Common.{◌≡◌, ℕ, ◌^◌, ◌<◌, ◌≤◌, Bool, true, false, ◌⊎◌, Some, Option, refl, inl, inr, arith, pow_mono}
use mathlib.Core.Bool.{false≢true}
use Rattle.labels.specs.Laws.{Code, Lawful}
use Rattle.noninterference.specs.Noninterference.{Codes}

pub decided : (b : Bool) → (b ≡ true) ⊎ (b ≡ true → ⊥)
decided true = inl refl
decided false = inr false≢true

pub one_label : (Γ : ℕ → Option ℕ) (i : ℕ) {l m : ℕ} → Γ i ≡ Some l → Γ i ≡ Some m → l ≡ m
one_label Γ i p q = cc

-- Γ gives codes, and of codes these laws hold: no proof below has any other law of the scheme
pub record Order (flows : ℕ → ℕ → Bool) (joins : ℕ → ℕ → ℕ) (Γ : ℕ → Option ℕ) : Type 0 where
  pub slot_code : (i l : ℕ) → Γ i ≡ Some l → Code l
  pub transitive : (a b c : ℕ) → Code a → Code b → Code c → flows a b ≡ true → flows b c ≡ true → flows a c ≡ true
  pub join_left : (a b : ℕ) → Code a → Code b → flows a (joins a b) ≡ true
  pub join_right : (a b : ℕ) → Code a → Code b → flows b (joins a b) ≡ true
  pub join_code : (a b : ℕ) → Code a → Code b → Code (joins a b)

-- a number that fits the width of a scheme is a code
pub fits : (n bits : ℕ) → bits ≤ 64 → n < 2 ^ bits → n < 2 ^ 64
fits n bits few h = let wide : 2 ^ bits ≤ 2 ^ 64 = pow_mono few in omega arith

pub order : {flows : ℕ → ℕ → Bool} {joins : ℕ → ℕ → ℕ} {bits : ℕ} {Γ : ℕ → Option ℕ} → Lawful flows joins bits → Codes Γ → Order flows joins Γ
order {joins} {bits} laws codes = record {
  slot_code = codes;
  transitive = laws.transitive;
  join_left = laws.join_left;
  join_right = laws.join_right;
  join_code = λ a b ca cb. fits (joins a b) bits laws.few_bits (laws.join_fits a b ca cb);
}

module _ {flows : ℕ → ℕ → Bool} {joins : ℕ → ℕ → ℕ} {Γ : ℕ → Option ℕ} (ok : Order flows joins Γ) where
  pub code_of : {i l : ℕ} → Γ i ≡ Some l → Code l
  code_of {i} {l} h = ok.slot_code i l h

  pub joined : {a b : ℕ} → Code a → Code b → Code (joins a b)
  joined ca cb = ok.join_code _ _ ca cb

  pub then : {a b c : ℕ} → Code a → Code b → Code c → flows a b ≡ true → flows b c ≡ true → flows a c ≡ true
  then ca cb cc' f g = ok.transitive _ _ _ ca cb cc' f g

  -- what a join is at or below, its two sides are
  pub left_of : {a b c : ℕ} → Code a → Code b → Code c → flows (joins a b) c ≡ true → flows a c ≡ true
  left_of ca cb cc' f = then ca (joined ca cb) cc' (ok.join_left _ _ ca cb) f

  pub right_of : {a b c : ℕ} → Code a → Code b → Code c → flows (joins a b) c ≡ true → flows b c ≡ true
  right_of ca cb cc' f = then cb (joined ca cb) cc' (ok.join_right _ _ ca cb) f
