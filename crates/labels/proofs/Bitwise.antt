-- The order and the join of topics and houses, bit by bit. Assumes nothing.
use Rattle.std.proofs.Common.{◌≡◌, ℕ, zero, suc, ◌+◌, ◌*◌, ◌/◌, ◌%◌, ◌^◌, ◌<◌, Bool, true, eqb, ◌⊎◌, sym, refl, ◌∙◌, subst, inl, inr, ⊎_elim, arith}
use Rattle.std.proofs.lemmas.Nat.{div-add-mod', mul-add-lt, div-mul-add, mod-mul-add, div_below, mod_below}
use Rattle.std.proofs.lemmas.Bool.{eqb-true, eqb-false, eq-eqb, ne_eqb, and_from, and_parts, or_left, or_right, or_cases, not-true, not_from_false}
use Rattle.labels.specs.Bits.{bit, included, united}
use Rattle.labels.specs.Schemes.{any_topic, bars_another, house_bits}
use Rattle.labels.specs.Words.{Set, Bars, TopicsBitwise, HouseBitwise}
use Rattle.labels.specs.Inclusion.{flow_decides, join_set, join_gives}

bit_set : (i a : ℕ) → bit i a ≡ true → Set i a
unfolding bit
bit_set i a e = eqb-true (a / 2 ^ i % 2) 1 e

set_bit : (i a : ℕ) → Set i a → bit i a ≡ true
unfolding bit
set_bit i a e = eq-eqb (a / 2 ^ i % 2) 1 e

-- ---- any marks

module _ (n : ℕ) (counts : ℕ → Bool) where
  abbrev Covered : ℕ → ℕ → Type 0
  Covered a b = (i : ℕ) → i < n → counts i ≡ true → Set i a → Set i b

  flow_covers : (a b : ℕ) → included n counts a b ≡ true → Covered a b
  flow_covers a b e i h c s =
      bit_set i b ((flow_decides n counts a b).0 e i h (and_from (counts i) (bit i a) c (set_bit i a s)))

  covers_flow : (a b : ℕ) → Covered a b → included n counts a b ≡ true
  covers_flow a b f =
      (flow_decides n counts a b).1 (λ i h e.
      let p = and_parts (counts i) (bit i a) e in
      set_bit i b (f i h p.0 (bit_set i a p.1)))

  join_words : (a b i : ℕ) → Set i (united n counts a b) → (i < n) × (counts i ≡ true) × (Set i a ⊎ Set i b)
  join_words a b i s =
      let p = join_gives n counts a b i (set_bit i (united n counts a b) s) in
      (p.0, p.1, ⊎_elim (λ x. inl (bit_set i a x)) (λ x. inr (bit_set i b x)) (or_cases (bit i a) (bit i b) p.2))

  words_join : (a b i : ℕ) → i < n → counts i ≡ true → Set i a ⊎ Set i b → Set i (united n counts a b)
  words_join a b i h c s =
      bit_set i (united n counts a b)
      (join_set n counts a b i h c (⊎_elim (λ x. or_left (bit i a) (bit i b) (set_bit i a x)) (λ x. or_right (bit i a) (bit i b) (set_bit i b x)) s))

-- ---- topics

pub topics_bitwise : TopicsBitwise
topics_bitwise = record {
  order = λ n a b.
      (λ e i h s. flow_covers n any_topic a b e i h refl s, λ f. covers_flow n any_topic a b (λ i h _ s. f i h s));
  join = λ n a b i.
      (λ s. let p = join_words n any_topic a b i s in (p.0, p.2), λ p. words_join n any_topic a b i p.0 refl p.1);
}

-- ---- a house: the place of an owner and a reader

module _ (k o r : ℕ) (ho : o < k) (hr : r < k) where
  place_below : o * k + r < house_bits k
  place_below = mul-add-lt o k r k ho hr

  owner_of : (o * k + r) / k ≡ o
  owner_of = div-mul-add o k r hr

  reader_of : (o * k + r) % k ≡ r
  reader_of = mod-mul-add o k r hr

  -- the place counts where the owner is not the reader
  place_counts : (o ≡ r → ⊥) → bars_another k (o * k + r) ≡ true
  place_counts d =
      not_from_false (eqb ((o * k + r) % k) ((o * k + r) / k))
      (ne_eqb ((o * k + r) % k) ((o * k + r) / k) (λ e. d (sym owner_of ∙ sym e ∙ reader_of)))

  counts_place : bars_another k (o * k + r) ≡ true → o ≡ r → ⊥
  counts_place c e =
      eqb-false ((o * k + r) % k) ((o * k + r) / k) (not-true (eqb ((o * k + r) % k) ((o * k + r) / k)) c)
      (reader_of ∙ sym e ∙ sym owner_of)

pub some_principal : (k i : ℕ) → i < house_bits k → 0 < k
some_principal zero i h = absurd (omega arith)
some_principal (suc k) i h = omega arith

-- every place that counts is that of an owner and another reader
module _ (k i : ℕ) (h : i < house_bits k) where
  by_place : (a b : ℕ) → ((o r : ℕ) → o < k → r < k → (o ≡ r → ⊥) → Bars k o r a → Bars k o r b) → bars_another k i ≡ true → Set i a → Set i b
  by_place a b f c s =
      let e : i / k * k + i % k ≡ i = div-add-mod' i k in
      let d = eqb-false (i % k) (i / k) (not-true (eqb (i % k) (i / k)) c) in
      subst (λ (x : ℕ). Set x b) e
      (f (i / k) (i % k) (div_below i k k (some_principal k i h) h) (mod_below i k (some_principal k i h)) (λ e. d (sym e)) (subst (λ (x : ℕ). Set x a) (sym e) s))

pub house_bitwise : HouseBitwise
house_bitwise = record {
  order = λ k a b. (
    λ e o r ho hr d s. flow_covers (house_bits k) (bars_another k) a b e (o * k + r) (place_below k o r ho hr) (place_counts k o r ho hr d) s,
    λ f. covers_flow (house_bits k) (bars_another k) a b (λ i h c s. by_place k i h a b f c s),
  );
  join = λ k a b o r ho hr. (
    λ s. let p = join_words (house_bits k) (bars_another k) a b (o * k + r) s in (counts_place k o r ho hr p.1, p.2),
    λ p. words_join (house_bits k) (bars_another k) a b (o * k + r) (place_below k o r ho hr) (place_counts k o r ho hr p.0) p.1,
  );
  beyond = λ k a b i h s. let p = join_words (house_bits k) (bars_another k) a b i s in omega (arith, p.0);
}
