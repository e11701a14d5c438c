-- How far the roster goes into the input. Assumes nothing.
use Rattle.std.proofs.Common.{◌≡◌, ℕ, suc, ◌+◌, ◌<◌, Bool, true, false, cond, not, ◌||◌, eqb, List, [], ◌∷◌, ◌++◌, length, get_or, take, drop, sym, refl, ap, ◌∙◌, arith}
use Rattle.std.specs.List.{flat_map}
use Rattle.std.proofs.lemmas.List.{append_assoc, append-nil, at_drop_more}
use Rattle.std.proofs.lemmas.Bool.{eqb-true, both_ways, cond-true, cond-false}
use Rattle.console.specs.Lines.{lines_from, lines_of, as_read, is_letter, leading, after_leading, roster_part, call_lines}

-- how many of the bytes are the roster's, in a line of it or at the start of a line
abbrev pub size : Bool → List ℕ → ℕ
size within [] = 0
size within (b ∷ bs) = cond (within || is_letter b) (suc (size (not (eqb b 10)) bs)) 0

letter_no_end : (b : ℕ) → is_letter b ≡ true → eqb b 10 ≡ true → ⊥
letter_no_end b l e = both_ways (is_letter b) (ap is_letter (eqb-true b 10 e)) l

-- what is true at the start of a line
record AtStart (bs : List ℕ) : Type 0 where
  roster : take (size false bs) bs ≡ roster_part bs
  calls : lines_of (drop (size false bs) bs) ≡ call_lines bs

record Within (begun bs : List ℕ) : Type 0 where
  roster : begun ++ take (size true bs) bs ≡ flat_map as_read (leading (lines_from begun bs))
  calls : lines_of (drop (size true bs) bs) ≡ after_leading (lines_from begun bs)

record Neither (begun bs : List ℕ) : Type 0 where
  roster : leading (lines_from begun bs) ≡ []
  calls : after_leading (lines_from begun bs) ≡ lines_from begun bs

-- a line that begins otherwise is not of the roster
neither : (c : ℕ) (cs bs : List ℕ) → is_letter c ≡ false → Neither (c ∷ cs) bs
neither c cs [] h = record { roster = rw h; calls = rw h }
neither c cs (b ∷ bs) h = go (eqb b 10) refl (neither c (cs ++ (b ∷ [])) bs h)
  where
    go : (z : Bool) → eqb b 10 ≡ z → Neither (c ∷ (cs ++ (b ∷ []))) bs → Neither (c ∷ cs) (b ∷ bs)
    go true e ih = record { roster = rw (e, h); calls = rw (e, h) }
    go false e ih = record { roster = rw e ih.roster; calls = rw e ih.calls }

in_line : (c b : ℕ) (cs bs : List ℕ) → is_letter c ≡ true → AtStart bs → Within (c ∷ (cs ++ (b ∷ []))) bs → Within (c ∷ cs) (b ∷ bs)
in_line c b cs bs h start ih = go (eqb b 10) refl
  where
    go : (z : Bool) → eqb b 10 ≡ z → Within (c ∷ cs) (b ∷ bs)
    go true e =
        record {
          roster = rw (e, h) (rw (append_assoc, start.roster, eqb-true b 10 e) refl);
          calls = rw (e, h) start.calls;
        }
    go false e = record { roster = rw e (sym (append_assoc (c ∷ cs) (b ∷ []) (take (size true bs) bs)) ∙ ih.roster); calls = rw e ih.calls }

starts : (b : ℕ) (bs : List ℕ) → (is_letter b ≡ true → Within (b ∷ []) bs) → AtStart (b ∷ bs)
starts b bs ih = go (is_letter b) refl (eqb b 10) refl
  where
    go : (z : Bool) → is_letter b ≡ z → (w : Bool) → eqb b 10 ≡ w → AtStart (b ∷ bs)
    go true l true e = absurd (letter_no_end b l e)
    go true l false e = record { roster = rw (l, e) (ih l).roster; calls = rw (l, e) (ih l).calls }
    go false l true e = record { roster = rw (l, e); calls = rw (l, e) }
    go false l false e =
        let n = neither b [] bs l in
        record { roster = rw (l, e) (rw n.roster refl); calls = rw (l, e) (sym n.calls) }

both : (bs : List ℕ) → AtStart bs × ((c : ℕ) (cs : List ℕ) → is_letter c ≡ true → Within (c ∷ cs) bs)
both [] = (
  record { roster = refl; calls = refl },
  λ c cs h. record { roster = rw h (sym (append-nil ((c ∷ cs) ++ []))); calls = rw h },
)
both (b ∷ bs) =
    let ih = both bs in (
      starts b bs (ih.1 b []),
      λ c cs h. in_line c b cs bs h ih.0 (ih.1 c (cs ++ (b ∷ [])) h),
    )

pub cut_there : (bs : List ℕ) (i : ℕ) → i ≡ size false bs → (take i bs ≡ roster_part bs) × (lines_of (drop i bs) ≡ call_lines bs)
cut_there bs i e =
    (ap (λ (k : ℕ). take k bs) e ∙ (both bs).0.roster, ap (λ (k : ℕ). lines_of (drop k bs)) e ∙ (both bs).0.calls)

-- the next byte is the roster's, or not
module _ (input : List ℕ) (within : Bool) (i : ℕ) (inside : i < length input) (so_far : i + size within (drop i input) ≡ size false input) where
  next : size within (drop i input) ≡ cond (within || is_letter (get_or input i 0)) (suc (size (not (eqb (get_or input i 0) 10)) (drop (i + 1) input))) 0
  next = at_drop_more (size within) input i 0 inside

  pub one_more : (within || is_letter (get_or input i 0)) ≡ true → i + 1 + size (not (eqb (get_or input i 0) 10)) (drop (i + 1) input) ≡ size false input
  one_more h =
      let grown = next ∙ cond-true (within || is_letter (get_or input i 0)) (suc (size (not (eqb (get_or input i 0) 10)) (drop (i + 1) input))) 0 h in
      omega (arith, so_far, grown)

  pub no_more : (within || is_letter (get_or input i 0)) ≡ false → i ≡ size false input
  no_more h =
      let none = next ∙ cond-false (within || is_letter (get_or input i 0)) (suc (size (not (eqb (get_or input i 0) 10)) (drop (i + 1) input))) 0 h in
      omega (arith, so_far, none)
