-- Ladders, pairs and caps in words. Assumes nothing.
use Rattle.std.proofs.Common.{◌≡◌, ℕ, ◌+◌, ◌-◌, ◌*◌, ◌/◌, ◌%◌, ◌^◌, ◌<◌, ◌≤◌, min, max, Bool, true, false, ◌&&◌, ◌⊎◌, sym, ap, ◌∙◌, inl, inr, ⊎_elim, arith, pow_pos}
use lib.Pow.{high, low}
use Rattle.std.proofs.lemmas.Nat.{div-add-mod', mod_below}
use Rattle.std.proofs.lemmas.Bool.{leb-true, le-leb, lt-leb, cases_lt, and_parts, and_from, cond-false}
use Rattle.labels.specs.Laws.{Code, Lawful}
use Rattle.labels.specs.Schemes.{level, ladder_flows, both_fit, pair_flows, pair_joins, capped, cap_flows}
use Rattle.labels.specs.Words.{LadderInWords, PairInWords, CappedAt, CapInWords}
use Rattle.labels.specs.Caps.{count_below, count_self, cap_lawful}

-- ---- a ladder

module _ (n a b : ℕ) where
  from_levels : ladder_flows n a b ≡ true → (a ≤ b) ⊎ (n ≤ b + 1)
  from_levels e =
      let h : level n a ≤ level n b = leb-true (level n a) (level n b) e in
      ⊎_elim (λ (s : b < a). inr (omega arith)) (λ (s : a ≤ b). inl s) (cases_lt b a)

  to_levels : (a ≤ b) ⊎ (n ≤ b + 1) → ladder_flows n a b ≡ true
  to_levels h =
      le-leb (level n a) (level n b) (⊎_elim (λ (s : a ≤ b). omega arith) (λ (s : n ≤ b + 1). omega arith) h)

  levels_join : max (min a (n - 1)) (min b (n - 1)) ≡ min (max a b) (n - 1)
  levels_join = omega arith

pub ladder_in_words : LadderInWords
ladder_in_words = record { order = λ n a b. (from_levels n a b, to_levels n a b); join = levels_join }

-- ---- a pair

module _ (v w : ℕ) where
  fit : v + w ≤ 64 → both_fit v w ≡ true
  fit h = le-leb (v + w) 64 h

  unfit : 64 < v + w → both_fit v w ≡ false
  unfit h = lt-leb (v + w) 64 h

-- each part of two codes, taken out again
module _ (v w s x t y : ℕ) (k : v + w ≤ 64) (hx : x < 2 ^ v) (hy : y < 2 ^ v) where
  parts_flow : (f g : ℕ → ℕ → Bool) → pair_flows f v g w (s * 2 ^ v + x) (t * 2 ^ v + y) ≡ (f x y && g s t)
  parts_flow f g = rw (fit v w k, low s v hx, low t v hy, high s v hx, high t v hy)

  parts_join : (f g : ℕ → ℕ → ℕ) → pair_joins f v g w (s * 2 ^ v + x) (t * 2 ^ v + y) ≡ g s t * 2 ^ v + f x y
  parts_join f g = rw (fit v w k, low s v hx, low t v hy, high s v hx, high t v hy)

pub pair_in_words : PairInWords
pair_in_words = record {
  parts = λ v a. (a / 2 ^ v, a % 2 ^ v, mod_below a (2 ^ v) (pow_pos v), sym (div-add-mod' a (2 ^ v)));
  order = λ f g v w s x t y k hx hy.
      let e = parts_flow v w s x t y k hx hy f g in
      (λ h. and_parts (f x y) (g s t) (sym e ∙ h), λ p. e ∙ and_from (f x y) (g s t) p.0 p.1);
  join = λ f g v w s x t y k hx hy. parts_join v w s x t y k hx hy f g;
  width = λ v w k. rw (fit v w k);
  order_too_wide = λ f g v w a b k. rw (unfit v w k);
  join_too_wide = λ f g v w a b k. rw (unfit v w k);
  width_too_wide = λ v w k. rw (unfit v w k);
}

-- ---- a cap

module _ {flows : ℕ → ℕ → Bool} {joins : ℕ → ℕ → ℕ} {bits : ℕ} (S : Lawful flows joins bits) (c : ℕ) (hc : Code c) where
  cap_itself : capped flows c c ≡ c
  cap_itself = count_self S c hc c (S.reflexive c hc)

  below_cap : (a : ℕ) → cap_flows flows c a c ≡ true
  below_cap a = ap (flows (capped flows c a)) cap_itself ∙ count_below S c hc a

  cap_below : (a : ℕ) → flows a c ≡ false → cap_flows flows c c a ≡ true
  cap_below a e =
      ap (flows (capped flows c c)) (cond-false (flows a c) a c e ∙ sym cap_itself) ∙ (cap_lawful S c hc).reflexive c hc

  capped_at : CappedAt flows joins c
  capped_at = record {
    top = below_cap;
    order_below = λ a b p q. rw (count_self S c hc a p, count_self S c hc b q);
    join_below = λ a b p q. rw (count_self S c hc a p, count_self S c hc b q);
    beyond = λ a e. (below_cap a, cap_below a e);
  }

pub cap_in_words : CapInWords
cap_in_words flows joins bits S c hc = capped_at S c hc
