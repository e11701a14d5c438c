-- The laws of a cap, from those of the scheme below. Assumes nothing.
use Rattle.std.specs.Prelude.{◌≡◌, ℕ, Bool, true, false, cond, refl}
use Rattle.std.proofs.Common.{ap, ◌∙◌}
use Rattle.std.proofs.lemmas.Bool.{cond-true}
use Rattle.labels.specs.Laws.{Code, Lawful}
use Rattle.labels.specs.Schemes.{capped, cap_flows, cap_joins}

module _ {flows : ℕ → ℕ → Bool} {joins : ℕ → ℕ → ℕ} {width : ℕ} (S : Lawful flows joins width) (c : ℕ) (hc : Code c) where
  abbrev count : ℕ → ℕ
  count a = capped flows c a

  count_code : (a : ℕ) → Code a → Code (count a)
  count_code a ha = go (flows a c)
    where
      go : (t : Bool) → Code (cond t a c)
      go true = ha
      go false = hc

  -- what a code counts as is at or below c
  pub count_below : (a : ℕ) → flows (count a) c ≡ true
  count_below a = go (flows a c) refl
    where
      go : (t : Bool) → flows a c ≡ t → flows (cond t a c) c ≡ true
      go true e = e
      go false e = S.reflexive c hc

  -- what is at or below c counts as itself
  pub count_self : (a : ℕ) → flows a c ≡ true → count a ≡ a
  count_self a e = cond-true (flows a c) a c e

  abbrev join : ℕ → ℕ → ℕ
  join a b = joins (count a) (count b)

  join_self : (a b : ℕ) → Code a → Code b → count (join a b) ≡ join a b
  join_self a b ha hb =
      count_self (join a b) (S.join_least (count a) (count b) c (count_code a ha) (count_code b hb) hc (count_below a) (count_below b))

  pub cap_lawful : Lawful (cap_flows flows c) (cap_joins flows joins c) width
  cap_lawful = record {
    reflexive = λ a ha. S.reflexive (count a) (count_code a ha);
    transitive = λ a b d ha hb hd. S.transitive (count a) (count b) (count d) (count_code a ha) (count_code b hb) (count_code d hd);
    join_left = λ a b ha hb.
        ap (flows (count a)) (join_self a b ha hb) ∙ S.join_left (count a) (count b) (count_code a ha) (count_code b hb);
    join_right = λ a b ha hb.
        ap (flows (count b)) (join_self a b ha hb) ∙ S.join_right (count a) (count b) (count_code a ha) (count_code b hb);
    join_least = λ a b d ha hb hd p q.
        ap (λ (x : ℕ). flows x (count d)) (join_self a b ha hb)
        ∙ S.join_least (count a) (count b) (count d) (count_code a ha) (count_code b hb) (count_code d hd) p q;
    bottom = λ a ha.
        ap (λ (x : ℕ). flows x (count a)) (count_self 0 (S.bottom c hc)) ∙ S.bottom (count a) (count_code a ha);
    some_bits = S.some_bits;
    few_bits = S.few_bits;
    join_fits = λ a b ha hb. S.join_fits (count a) (count b) (count_code a ha) (count_code b hb);
  }
