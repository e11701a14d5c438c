-- What the laws of a scheme say of a join and of what it is at or below. Assumes nothing.
use Rattle.std.proofs.Common.{◌≡◌, ℕ, ◌^◌, ◌≤◌, Bool, true, false, ◌&&◌, sym, refl, arith, pow_mono}
use Rattle.std.proofs.lemmas.Bool.{and_parts, and_from}
use Rattle.labels.specs.Laws.{Code, Lawful}

-- two tests that hold of the same are the same
pub alike : (x y : Bool) → (x ≡ true → y ≡ true) → (y ≡ true → x ≡ true) → x ≡ y
alike true y f g = sym (f refl)
alike false true f g = g refl
alike false false f g = refl

module _ {flows : ℕ → ℕ → Bool} {joins : ℕ → ℕ → ℕ} {bits : ℕ} (law : Lawful flows joins bits) where
  pub join_code : {a b : ℕ} → Code a → Code b → Code (joins a b)
  join_code {a} {b} ca cb =
      let few : bits ≤ 64 = law.few_bits in
      let wide : 2 ^ bits ≤ 2 ^ 64 = pow_mono few in
      omega (arith, law.join_fits a b ca cb)

  -- a join is at or below what both its sides are at or below, and nothing else
  pub join_splits : (a b c : ℕ) → Code a → Code b → Code c → flows (joins a b) c ≡ (flows a c && flows b c)
  join_splits a b c ca cb cc' =
      let cj = join_code ca cb in
      alike (flows (joins a b) c) (flows a c && flows b c)
      (λ h. and_from (flows a c) (flows b c)
      (law.transitive a (joins a b) c ca cj cc' (law.join_left a b ca cb) h)
      (law.transitive b (joins a b) c cb cj cc' (law.join_right a b ca cb) h))
      (λ h. let s = and_parts (flows a c) (flows b c) h in law.join_least a b c ca cb cc' s.0 s.1)
