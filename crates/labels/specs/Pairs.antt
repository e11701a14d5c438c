-- The laws of a pair, from those of its two schemes; the parts of a code as code has them. Assumes nothing.
use Rattle.std.specs.Prelude.{◌≡◌, ℕ, ◌+◌, ◌-◌, ◌*◌, ◌%◌, ◌^◌, ◌<◌, ◌≤◌, Bool, true, false, cond, ◌&&◌, bit_or, refl}
use Rattle.std.proofs.Common.{sym, ap, ◌∙◌, lt_of_le_of_lt, lt_of_lt_of_le, mod-eq_of_lt, add_comm, arith, pow-add, pow_pos, pow_mono, shl_exact}
use Rattle.std.proofs.Math.Nat.{mod-le, div-eq_of_lt}
use Rattle.std.proofs.Math.Arith.{digits_lt}
use Rattle.std.proofs.lemmas.Nat.{or_shifted, shr_le}
use Rattle.std.proofs.Math.Pow.{high, low}
use Rattle.std.proofs.lemmas.Bool.{and_parts, and_from, leb-true}
use Rattle.labels.specs.Laws.{Code, Lawful}
use Rattle.labels.specs.Schemes.{low_part, high_part, rejoined, both_fit, pair_flows, pair_joins, pair_bits}

-- ---- parts

low_code : (v a : ℕ) → Code a → Code (low_part v a)
low_code v a h = lt_of_le_of_lt (mod-le a (2 ^ v)) h

high_code : (v a : ℕ) → Code a → Code (high_part v a)
high_code v a h = lt_of_le_of_lt (shr_le a v) h

-- where the low part has all 64 bits or more, it is the whole code
pub all_low : (v a : ℕ) → 64 ≤ v → Code a → (a ≡ low_part v a) × (0 ≡ high_part v a)
all_low v a h k =
    let whole : a < 2 ^ v = lt_of_lt_of_le k (pow_mono h) in
    (sym (mod-eq_of_lt whole), sym (div-eq_of_lt whole))

-- `high << v | low`
pub shifted_or : (v l h : ℕ) → v < 64 → l < 2 ^ v → h < 2 ^ (64 - v) → bit_or ((h * 2 ^ v) % 2 ^ 64) l ≡ rejoined v l h
shifted_or v l h k kl kh =
    ap (λ (x : ℕ). bit_or x l) (shl_exact (64 - v) v 64 kh (omega arith)) ∙ or_shifted h v l kl

-- ---- laws

module _ {lf : ℕ → ℕ → Bool} {lj : ℕ → ℕ → ℕ} {v : ℕ} {hf : ℕ → ℕ → Bool} {hj : ℕ → ℕ → ℕ} {w : ℕ}
    (L : Lawful lf lj v) (H : Lawful hf hj w) where
  abbrev flow : ℕ → ℕ → Bool
  flow a b = lf (low_part v a) (low_part v b) && hf (high_part v a) (high_part v b)

  abbrev low_join : ℕ → ℕ → ℕ
  low_join a b = lj (low_part v a) (low_part v b)

  abbrev high_join : ℕ → ℕ → ℕ
  high_join a b = hj (high_part v a) (high_part v b)

  abbrev join : ℕ → ℕ → ℕ
  join a b = rejoined v (low_join a b) (high_join a b)

  low_fits : (a b : ℕ) → Code a → Code b → low_join a b < 2 ^ v
  low_fits a b ha hb = L.join_fits (low_part v a) (low_part v b) (low_code v a ha) (low_code v b hb)

  high_fits : (a b : ℕ) → Code a → Code b → high_join a b < 2 ^ w
  high_fits a b ha hb = H.join_fits (high_part v a) (high_part v b) (high_code v a ha) (high_code v b hb)

  -- the parts of a join are the joins of the parts
  low_of_join : (a b : ℕ) → Code a → Code b → low_part v (join a b) ≡ low_join a b
  low_of_join a b ha hb = low (high_join a b) v (low_fits a b ha hb)

  high_of_join : (a b : ℕ) → Code a → Code b → high_part v (join a b) ≡ high_join a b
  high_of_join a b ha hb = high (high_join a b) v (low_fits a b ha hb)

  flow_to_join : (a b x : ℕ) → Code a → Code b → lf (low_part v x) (low_join a b) ≡ true → hf (high_part v x) (high_join a b) ≡ true → flow x (join a b) ≡ true
  flow_to_join a b x ha hb p q =
      and_from (lf (low_part v x) (low_part v (join a b))) (hf (high_part v x) (high_part v (join a b)))
      (ap (lf (low_part v x)) (low_of_join a b ha hb) ∙ p)
      (ap (hf (high_part v x)) (high_of_join a b ha hb) ∙ q)

  flow_parts : (a b : ℕ) → flow a b ≡ true → (lf (low_part v a) (low_part v b) ≡ true) × (hf (high_part v a) (high_part v b) ≡ true)
  flow_parts a b e = and_parts (lf (low_part v a) (low_part v b)) (hf (high_part v a) (high_part v b)) e

  flow_from : (a b : ℕ) → lf (low_part v a) (low_part v b) ≡ true → hf (high_part v a) (high_part v b) ≡ true → flow a b ≡ true
  flow_from a b p q = and_from (lf (low_part v a) (low_part v b)) (hf (high_part v a) (high_part v b)) p q

  least : (a b c : ℕ) → Code a → Code b → Code c → flow a c ≡ true → flow b c ≡ true → flow (join a b) c ≡ true
  least a b c ha hb hc p q =
      let x = flow_parts a c p in
      let y = flow_parts b c q in
      flow_from (join a b) c
      (ap (λ (z : ℕ). lf z (low_part v c)) (low_of_join a b ha hb)
      ∙ L.join_least (low_part v a) (low_part v b) (low_part v c) (low_code v a ha) (low_code v b hb) (low_code v c hc) x.0 y.0)
      (ap (λ (z : ℕ). hf z (high_part v c)) (high_of_join a b ha hb)
      ∙ H.join_least (high_part v a) (high_part v b) (high_part v c) (high_code v a ha) (high_code v b hb) (high_code v c hc) x.1 y.1)

  bottom_part : (a : ℕ) → Code a → flow 0 a ≡ true
  bottom_part a ha =
      let whole : 0 < 2 ^ v = pow_pos v in
      flow_from 0 a
      (ap (λ (z : ℕ). lf z (low_part v a)) (mod-eq_of_lt whole) ∙ L.bottom (low_part v a) (low_code v a ha))
      (ap (λ (z : ℕ). hf z (high_part v a)) (div-eq_of_lt whole) ∙ H.bottom (high_part v a) (high_code v a ha))

  join_width : (a b : ℕ) → Code a → Code b → join a b < 2 ^ (v + w)
  join_width a b ha hb =
      let e : 2 ^ (v + w) ≡ 2 ^ w * 2 ^ v = ap (λ (x : ℕ). 2 ^ x) (add_comm v w) ∙ pow-add 2 w v in
      omega (arith, e, digits_lt (high_fits a b ha hb) (low_fits a b ha hb))

  -- by whether the widths add up to at most 64
  by_fit : (t : Bool) → both_fit v w ≡ t → Lawful (λ a b. cond t (flow a b) true) (λ a b. cond t (join a b) 0) (cond t (v + w) 1)
  by_fit true e = record {
    reflexive = λ a ha. flow_from a a (L.reflexive (low_part v a) (low_code v a ha)) (H.reflexive (high_part v a) (high_code v a ha));
    transitive = λ a b c ha hb hc p q.
        let x = flow_parts a b p in
        let y = flow_parts b c q in
        flow_from a c
        (L.transitive (low_part v a) (low_part v b) (low_part v c) (low_code v a ha) (low_code v b hb) (low_code v c hc) x.0 y.0)
        (H.transitive (high_part v a) (high_part v b) (high_part v c) (high_code v a ha) (high_code v b hb) (high_code v c hc) x.1 y.1);
    join_left = λ a b ha hb.
        flow_to_join a b a ha hb
        (L.join_left (low_part v a) (low_part v b) (low_code v a ha) (low_code v b hb))
        (H.join_left (high_part v a) (high_part v b) (high_code v a ha) (high_code v b hb));
    join_right = λ a b ha hb.
        flow_to_join a b b ha hb
        (L.join_right (low_part v a) (low_part v b) (low_code v a ha) (low_code v b hb))
        (H.join_right (high_part v a) (high_part v b) (high_code v a ha) (high_code v b hb));
    join_least = least;
    bottom = bottom_part;
    some_bits = omega (arith, L.some_bits);
    few_bits = leb-true (v + w) 64 e;
    join_fits = join_width;
  }
  by_fit false e = record {
    reflexive = λ a _. refl;
    transitive = λ a b c _ _ _ _ _. refl;
    join_left = λ a b _ _. refl;
    join_right = λ a b _ _. refl;
    join_least = λ a b c _ _ _ _ _. refl;
    bottom = λ a _. refl;
    some_bits = omega arith;
    few_bits = omega arith;
    join_fits = λ a b _ _. omega arith;
  }

  pub pair_lawful : Lawful (pair_flows lf v hf w) (pair_joins lj v hj w) (pair_bits v w)
  pair_lawful = by_fit (both_fit v w) refl
