-- Jumps that lead each row to its partner link every block that the rows list. Assumes nothing.
use Rattle.std.proofs.Common.{◌≡◌, ℕ, zero, suc, ◌+◌, ◌<◌, ◌≤◌, true, List, [], ◌∷◌, ◌++◌, length, get_or, drop, sym, refl, ap, ◌∙◌, append_assoc, zero-add, arith, length-append, length-drop}
use Rattle.std.proofs.lemmas.List.{append-nil, drop_more, drop-drop, drop_at}
use Rattle.std.proofs.lemmas.Bool.{and_parts}
use Rattle.rows.specs.declared.row.Row.{Row}
use Rattle.rows.specs.declared.row.Row.TheVariants.{Idle, If, Else, While, End}
use Rattle.sheets.specs.Programs.{constant, with_constant, two_slots, Simple, skip, assign, Block, nil, simple, when, either, while, simple_row, listing}
use Rattle.rows.specs.Writing.{slots_of}
use Rattle.sheets.specs.Reading.{in_range, all_within}
use Rattle.sheets.specs.Jumps.{closing, partner, Leads}
use Rattle.running.specs.Links.{At, Linked}

closing_simple : (s : Simple) (d : ℕ) (rs : List Row) → closing d (simple_row s ∷ rs) ≡ suc (closing d rs)
closing_simple skip d rs = refl
closing_simple (assign i (constant k)) d rs = refl
closing_simple (assign i (with_constant op one k)) d rs = refl
closing_simple (assign i (two_slots op one two)) d rs = refl

-- a whole block is passed over
closing_listing : (b : Block) (d : ℕ) (rs : List Row) → closing d (listing b ++ rs) ≡ length (listing b) + closing d rs
closing_listing nil d rs = sym (zero-add (closing d rs))
closing_listing (simple s rest) d rs = omega (arith, closing_simple s d (listing rest ++ rs), closing_listing rest d rs)
closing_listing (when g a rest) d rs =
    omega (arith, ap (closing (suc d)) (append_assoc (listing a) (End ∷ listing rest) rs), closing_listing a (suc d) (End ∷ (listing rest ++ rs)), closing_listing rest d rs, length-append (listing a) (End ∷ listing rest))
closing_listing (either g a b rest) d rs =
    omega (
      arith,
      ap (closing (suc d)) (append_assoc (listing a) (Else ∷ (listing b ++ (End ∷ listing rest))) rs),
      closing_listing a (suc d) (Else ∷ ((listing b ++ (End ∷ listing rest)) ++ rs)),
      ap (closing (suc d)) (append_assoc (listing b) (End ∷ listing rest) rs),
      closing_listing b (suc d) (End ∷ (listing rest ++ rs)),
      closing_listing rest d rs,
      length-append (listing a) (Else ∷ (listing b ++ (End ∷ listing rest))),
      length-append (listing b) (End ∷ listing rest),
    )
closing_listing (while g a rest) d rs =
    omega (arith, ap (closing (suc d)) (append_assoc (listing a) (End ∷ listing rest) rs), closing_listing a (suc d) (End ∷ (listing rest ++ rs)), closing_listing rest d rs, length-append (listing a) (End ∷ listing rest))

-- what stands after some rows
past : (rows : List Row) (i : ℕ) (p q : List Row) (k : ℕ) → drop i rows ≡ p ++ q → k ≡ i + length p → drop k rows ≡ q
past rows i p q k e k-is =
    ap (λ (n : ℕ). drop n rows) k-is ∙ (sym (drop-drop (length p) i rows) ∙ (ap (λ (xs : List Row). drop (length p) xs) e ∙ drop_at p q (length p) refl))

each_within : (rows : List Row) (i : ℕ) → all_within rows ≡ true → i < length rows → in_range (slots_of (get_or rows i Idle)) ≡ true
each_within [] i h lt = absurd (omega arith)
each_within (r ∷ rows) zero h lt = (and_parts (in_range (slots_of r)) (all_within rows) h).0
each_within (r ∷ rows) (suc i) h lt = each_within rows i (and_parts (in_range (slots_of r)) (all_within rows) h).1 (omega arith)

-- the slots that the rows name are in the table
module _ (rows : List Row) (few : length rows ≤ 256) (bounded : all_within rows ≡ true) (jumps : List ℕ) (leads : Leads rows jumps) where
  -- what stands at i, where it leads, and what stands after it
  record Next (i : ℕ) (r : Row) (rest : List Row) : Type 0 where
    here : At rows i r
    leads_to : get_or jumps i 0 ≡ partner r i rest
    after : drop (i + 1) rows ≡ rest

  next : (i : ℕ) (r : Row) (rest : List Row) → drop i rows ≡ r ∷ rest → Next i r rest
  next i r rest e =
      let within_rows : i < length rows = omega (arith, length-drop i rows, ap length e) in
      let more : drop i rows ≡ get_or rows i Idle ∷ drop (i + 1) rows = drop_more rows i Idle within_rows in
      let first : get_or rows i Idle ≡ r = cc in
      let rest_is : drop (i + 1) rows ≡ rest = cc in
      record {
        here = record { below = omega arith; stands = within_rows; is = first; in_table = sym (ap (λ (x : Row). in_range (slots_of x)) first) ∙ each_within rows i bounded within_rows };
        leads_to = leads i within_rows ∙ (ap (λ (x : Row). partner x i (drop (i + 1) rows)) first ∙ ap (λ (xs : List Row). partner r i xs) rest_is);
        after = rest_is;
      }

  linked : (b : Block) (i j : ℕ) (rs : List Row) → drop i rows ≡ listing b ++ rs → j ≡ i + length (listing b) → Linked rows jumps i b j
  linked nil i j rs e j-is = omega (arith, j-is)
  linked (simple s rest) i j rs e j-is =
      let m = next i (simple_row s) (listing rest ++ rs) e in
      (m.here, linked rest (i + 1) j rs m.after (omega (arith, j-is)))
  linked (when g a rest) i j rs e j-is =
      let m = next i (If g) (listing a ++ (End ∷ (listing rest ++ rs))) (e ∙ ap (λ (xs : List Row). If g ∷ xs) (append_assoc (listing a) (End ∷ listing rest) rs)) in
      let mid : ℕ = get_or jumps i 0 in
      let mid_is : mid ≡ i + 1 + length (listing a) = omega (arith, m.leads_to, closing_listing a 0 (End ∷ (listing rest ++ rs))) in
      let l = next mid End (listing rest ++ rs) (past rows (i + 1) (listing a) (End ∷ (listing rest ++ rs)) mid m.after mid_is) in (
        m.here,
        linked a (i + 1) mid (End ∷ (listing rest ++ rs)) m.after mid_is,
        l.here,
        l.leads_to,
        linked rest (mid + 1) j rs l.after (omega (arith, j-is, mid_is, length-append (listing a) (End ∷ listing rest))),
      )
  linked (either g a b rest) i j rs e j-is =
      let tail : List Row = End ∷ (listing rest ++ rs) in
      let m = next i (If g) (listing a ++ (Else ∷ (listing b ++ tail))) (e ∙ (ap (λ (xs : List Row). If g ∷ xs) (append_assoc (listing a) (Else ∷ (listing b ++ (End ∷ listing rest))) rs) ∙ ap (λ (xs : List Row). If g ∷ (listing a ++ (Else ∷ xs))) (append_assoc (listing b) (End ∷ listing rest) rs))) in
      let mid : ℕ = get_or jumps i 0 in
      let mid_is : mid ≡ i + 1 + length (listing a) = omega (arith, m.leads_to, closing_listing a 0 (Else ∷ (listing b ++ tail))) in
      let k = next mid Else (listing b ++ tail) (past rows (i + 1) (listing a) (Else ∷ (listing b ++ tail)) mid m.after mid_is) in
      let end : ℕ = get_or jumps mid 0 in
      let end_is : end ≡ mid + 1 + length (listing b) = omega (arith, k.leads_to, closing_listing b 0 tail) in
      let l = next end End (listing rest ++ rs) (past rows (mid + 1) (listing b) tail end k.after end_is) in (
        m.here,
        linked a (i + 1) mid (Else ∷ (listing b ++ tail)) m.after mid_is,
        k.here,
        linked b (mid + 1) end tail k.after end_is,
        l.here,
        linked rest (end + 1) j rs l.after (omega (arith, j-is, mid_is, end_is, length-append (listing a) (Else ∷ (listing b ++ (End ∷ listing rest))), length-append (listing b) (End ∷ listing rest))),
      )
  linked (while g a rest) i j rs e j-is =
      let m = next i (While g) (listing a ++ (End ∷ (listing rest ++ rs))) (e ∙ ap (λ (xs : List Row). While g ∷ xs) (append_assoc (listing a) (End ∷ listing rest) rs)) in
      let end : ℕ = get_or jumps i 0 in
      let end_is : end ≡ i + 1 + length (listing a) = omega (arith, m.leads_to, closing_listing a 0 (End ∷ (listing rest ++ rs))) in
      let l = next end End (listing rest ++ rs) (past rows (i + 1) (listing a) (End ∷ (listing rest ++ rs)) end m.after end_is) in (
        m.here,
        linked a (i + 1) end (End ∷ (listing rest ++ rs)) m.after end_is,
        l.here,
        linked rest (end + 1) j rs l.after (omega (arith, j-is, end_is, length-append (listing a) (End ∷ listing rest))),
      )

  -- every block that the rows list stands there
  pub whole : (b : Block) → listing b ≡ rows → Linked rows jumps 0 b (length rows)
  whole b e = linked b 0 (length rows) [] (sym e ∙ sym (append-nil (listing b))) (omega (arith, ap length e))
