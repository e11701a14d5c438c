-- The laws of a scheme of which some bits count, and the same order and join by a mask, as code has them. Assumes nothing.
use Rattle.std.specs.Prelude.{◌≡◌, ℕ, ◌^◌, ◌<◌, ◌≤◌, Bool, true, false, not, ◌&&◌, ◌||◌, Decides, ◌==◌, nat_eq, nat_lt, refl}
use Rattle.std.proofs.Common.{sym, ap, ◌∙◌, ⊎_elim}
use Rattle.std.specs.Int.Bits.{bit_and, bit_or}
use Rattle.std.proofs.lemmas.Bool.{and_parts, and_from, or_cases, or_left, or_right, both_ways, lt-ltb, ltb-true}
use Rattle.std.proofs.lemmas.Bool.Decides.{Decides-below_and, Decides-eqb, Decides-like, same_from_decides}
use Rattle.labels.specs.Laws.{Lawful}
use Rattle.labels.specs.Bits.{bit, every, bits_where, included, united}
use Rattle.labels.specs.BitLaws.{bit_zero, bit_of_and, bit_of_or, same_bits, where_below, where_bit}

-- a test that says 'if x then y'
implies_decides : (x y : Bool) → Decides (not x || y) (x ≡ true → y ≡ true)
implies_decides true y = (λ h _. h, λ f. f refl)
implies_decides false y = (λ _ h. absurd (both_ways false refl h), λ _. refl)

-- every bit that counts and is set in a is set in b
abbrev pub FlowsByBit : ℕ → (ℕ → Bool) → ℕ → ℕ → Type 0
FlowsByBit n counts a b = (i : ℕ) → i < n → (counts i && bit i a) ≡ true → bit i b ≡ true

pub flow_decides : (n : ℕ) (counts : ℕ → Bool) (a b : ℕ) → Decides (included n counts a b) (FlowsByBit n counts a b)
unfolding included every
flow_decides n counts a b =
    Decides-below_and (λ i. not (counts i && bit i a) || bit i b) (λ i. (counts i && bit i a) ≡ true → bit i b ≡ true)
    (λ m. every m (λ i. not (counts i && bit i a) || bit i b))
    (λ i. implies_decides (counts i && bit i a) (bit i b)) refl (λ _. refl) n

pub join_bit : (n : ℕ) (counts : ℕ → Bool) (a b i : ℕ) → bit i (united n counts a b) ≡ (nat_lt i n && (counts i && (bit i a || bit i b)))
unfolding united
join_bit n counts a b i = where_bit n (λ j. counts j && (bit j a || bit j b)) i

pub join_below : (n : ℕ) (counts : ℕ → Bool) (a b : ℕ) → united n counts a b < 2 ^ n
unfolding united
join_below n counts a b = where_below n (λ j. counts j && (bit j a || bit j b))

-- ---- the laws

module _ (n : ℕ) (counts : ℕ → Bool) where
  flow_from : (a b : ℕ) → FlowsByBit n counts a b → included n counts a b ≡ true
  flow_from a b = (flow_decides n counts a b).1

  flow_gives : (a b : ℕ) → included n counts a b ≡ true → FlowsByBit n counts a b
  flow_gives a b = (flow_decides n counts a b).0

  -- a bit of the join that is set
  pub join_set : (a b i : ℕ) → i < n → counts i ≡ true → (bit i a || bit i b) ≡ true → bit i (united n counts a b) ≡ true
  join_set a b i h c e =
      join_bit n counts a b i
      ∙ and_from (nat_lt i n) (counts i && (bit i a || bit i b)) (lt-ltb i n h) (and_from (counts i) (bit i a || bit i b) c e)

  pub join_gives : (a b i : ℕ) → bit i (united n counts a b) ≡ true → (i < n) × (counts i ≡ true) × (bit i a || bit i b) ≡ true
  join_gives a b i e =
      let p = and_parts (nat_lt i n) (counts i && (bit i a || bit i b)) (sym (join_bit n counts a b i) ∙ e) in
      let q = and_parts (counts i) (bit i a || bit i b) p.1 in
      (ltb-true i n p.0, q.0, q.1)

  flow_refl : (a : ℕ) → included n counts a a ≡ true
  flow_refl a = flow_from a a (λ i _ e. (and_parts (counts i) (bit i a) e).1)

  flow_trans : (a b c : ℕ) → included n counts a b ≡ true → included n counts b c ≡ true → included n counts a c ≡ true
  flow_trans a b c p q =
      flow_from a c (λ i h e.
      flow_gives b c q i h (and_from (counts i) (bit i b) (and_parts (counts i) (bit i a) e).0 (flow_gives a b p i h e)))

  flow_left : (a b : ℕ) → included n counts a (united n counts a b) ≡ true
  flow_left a b =
      flow_from a (united n counts a b) (λ i h e.
      let p = and_parts (counts i) (bit i a) e in
      join_set a b i h p.0 (or_left (bit i a) (bit i b) p.1))

  flow_right : (a b : ℕ) → included n counts b (united n counts a b) ≡ true
  flow_right a b =
      flow_from b (united n counts a b) (λ i h e.
      let p = and_parts (counts i) (bit i b) e in
      join_set a b i h p.0 (or_right (bit i a) (bit i b) p.1))

  flow_least : (a b c : ℕ) → included n counts a c ≡ true → included n counts b c ≡ true → included n counts (united n counts a b) c ≡ true
  flow_least a b c p q =
      flow_from (united n counts a b) c (λ i h e.
      let x = join_gives a b i (and_parts (counts i) (bit i (united n counts a b)) e).1 in
      ⊎_elim (λ s. flow_gives a c p i h (and_from (counts i) (bit i a) x.1 s)) (λ s. flow_gives b c q i h (and_from (counts i) (bit i b) x.1 s))
      (or_cases (bit i a) (bit i b) x.2))

  flow_bottom : (a : ℕ) → included n counts 0 a ≡ true
  flow_bottom a = flow_from 0 a (λ i _ e. absurd (both_ways (bit i 0) (bit_zero i) (and_parts (counts i) (bit i 0) e).1))

  pub counted_lawful : 1 ≤ n → n ≤ 64 → Lawful (included n counts) (united n counts) n
  counted_lawful some few = record {
    reflexive = λ a _. flow_refl a;
    transitive = λ a b c _ _ _. flow_trans a b c;
    join_left = λ a b _ _. flow_left a b;
    join_right = λ a b _ _. flow_right a b;
    join_least = λ a b c _ _ _. flow_least a b c;
    bottom = λ a _. flow_bottom a;
    some_bits = some;
    few_bits = few;
    join_fits = λ a b _ _. join_below n counts a b;
  }

-- ---- by a mask, whose bits are those that count

both_set : (x l c y : Bool) → ((l ≡ true) → (c && x) ≡ true → y ≡ true) → ((x && (l && c)) && y) ≡ (x && (l && c))
both_set true true true y h = h refl refl
both_set true true false y h = refl
both_set true false c y h = refl
both_set false l c y h = refl

set_both : (x l c y : Bool) → ((x && (l && c)) && y) ≡ (x && (l && c)) → l ≡ true → (c && x) ≡ true → y ≡ true
set_both true true true y e _ _ = e
set_both true true false y e _ h = absurd (both_ways false refl h)
set_both true false c y e h _ = absurd (both_ways false refl h)
set_both false l true y e _ h = absurd (both_ways false refl h)
set_both false l false y e _ h = absurd (both_ways false refl h)

picked : (x y l c : Bool) → (l && (c && (x || y))) ≡ ((x || y) && (l && c))
picked true y true true = refl
picked true y true false = refl
picked true y false c = refl
picked false true true true = refl
picked false true true false = refl
picked false true false c = refl
picked false false true true = refl
picked false false true false = refl
picked false false false c = refl

module _ (n : ℕ) (counts : ℕ → Bool) where
  masked_bit : (a i : ℕ) → bit i (bit_and a (bits_where n counts)) ≡ (bit i a && (nat_lt i n && counts i))
  masked_bit a i = bit_of_and i a (bits_where n counts) ∙ ap (λ (t : Bool). bit i a && t) (where_bit n counts i)

  kept_bit : (a b i : ℕ) → bit i (bit_and (bit_and a (bits_where n counts)) b) ≡ ((bit i a && (nat_lt i n && counts i)) && bit i b)
  kept_bit a b i = bit_of_and i (bit_and a (bits_where n counts)) b ∙ ap (λ (t : Bool). t && bit i b) (masked_bit a i)

  mask_decides : (a b : ℕ) → Decides (bit_and (bit_and a (bits_where n counts)) b == bit_and a (bits_where n counts)) (FlowsByBit n counts a b)
  mask_decides a b =
      let m = bit_and a (bits_where n counts) in
      Decides-like (bit_and m b == m)
      (λ e i h s. set_both (bit i a) (nat_lt i n) (counts i) (bit i b) (sym (kept_bit a b i) ∙ ap (bit i) e ∙ masked_bit a i) (lt-ltb i n h) s)
      (λ f. same_bits (bit_and m b) m (λ i.
      kept_bit a b i ∙ both_set (bit i a) (nat_lt i n) (counts i) (bit i b) (λ l. f i (ltb-true i n l)) ∙ sym (masked_bit a i)))
      (Decides-eqb (bit_and m b) m)

  flow_by_mask : (a b : ℕ) → (bit_and (bit_and a (bits_where n counts)) b == bit_and a (bits_where n counts)) ≡ included n counts a b
  flow_by_mask a b =
      same_from_decides (bit_and (bit_and a (bits_where n counts)) b == bit_and a (bits_where n counts)) (included n counts a b)
      (mask_decides a b) (flow_decides n counts a b)

  join_by_mask : (a b : ℕ) → bit_and (bit_or a b) (bits_where n counts) ≡ united n counts a b
  join_by_mask a b =
      same_bits (bit_and (bit_or a b) (bits_where n counts)) (united n counts a b) (λ i.
      masked_bit (bit_or a b) i ∙ ap (λ (t : Bool). t && (nat_lt i n && counts i)) (bit_of_or i a b)
      ∙ sym (join_bit n counts a b i ∙ picked (bit i a) (bit i b) (nat_lt i n) (counts i)))

  -- `a & mask & b == a & mask`
  pub includes_is : (mask a b : ℕ) → mask ≡ bits_where n counts → (bit_and (bit_and a mask) b == bit_and a mask) ≡ included n counts a b
  includes_is mask a b e = ap (λ (m : ℕ). nat_eq (bit_and (bit_and a m) b) (bit_and a m)) e ∙ flow_by_mask a b

  -- `(a | b) & mask`
  pub unite_is : (mask a b : ℕ) → mask ≡ bits_where n counts → bit_and (bit_or a b) mask ≡ united n counts a b
  unite_is mask a b e = ap (bit_and (bit_or a b)) e ∙ join_by_mask a b
