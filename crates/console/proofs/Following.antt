-- From one call line to the next, and how many there are. Assumes nothing.
use Rattle.std.proofs.Common.{◌≡◌, ℕ, suc, ◌+◌, ◌<◌, ◌≤◌, Bool, true, false, cond, eqb, List, [], ◌∷◌, ◌++◌, map, length, drop, Some, None, Option, sym, refl, ap, ◌∙◌, arith}
use Rattle.std.specs.Option.{option_map}
use Rattle.std.specs.List.{concat}
use Rattle.std.proofs.lemmas.List.{append_assoc, append-nil}
use Rattle.std.proofs.lemmas.List.Sums.{sum_by-cons, sum_by-take-drop}
use Rattle.table.specs.declared.table.Slot.{Slot}
use Rattle.table.specs.declared.table.Table.{Table}
use Rattle.noninterference.specs.Monitor.{Call, Monitor}
use Rattle.numerals.specs.Fields.{cut_at}
use Rattle.console.specs.Lines.{Line, last_line, lines_from, lines_of}
use Rattle.console.specs.Reading.{call_in}
use Rattle.console.specs.Console.{said, faulty_line, replies}
use Rattle.console.specs.Onward.{to_print}
use Rattle.console.specs.Scheme.{window_of}
use Rattle.console.specs.Turns.{reply, slots_after, Turned}
use Rattle.console.specs.Writing.{ends_in}
use Rattle.console.proofs.Stepping.{same_box}

-- ---- cut after the first byte 10

abbrev Cut : Type 0
Cut = Option (List ℕ × List ℕ)

-- the first line is ended
line_ends : (begun text : List ℕ) (p : List ℕ × List ℕ) → cut_at 10 text ≡ Some p → lines_from begun text ≡ record { bytes = begun ++ p.0; ended = true } ∷ lines_of p.1
line_ends begun [] p e = let z : ◌≡◌ {A = ℕ} 0 1 = cc in absurd (omega arith)
line_ends begun (b ∷ bs) p e = go (eqb b 10) refl (cut_at 10 bs) refl e (line_ends (begun ++ (b ∷ [])) bs)
  where
    go : (z : Bool) → eqb b 10 ≡ z → (o : Cut) → cut_at 10 bs ≡ o → cond {A = Cut} z (Some ([], bs)) (option_map (λ parts. (b ∷ parts.0, parts.1)) o) ≡ Some p →
        ((q : List ℕ × List ℕ) → cut_at 10 bs ≡ Some q → lines_from (begun ++ (b ∷ [])) bs ≡ record { bytes = (begun ++ (b ∷ [])) ++ q.0; ended = true } ∷ lines_of q.1) →
        lines_from begun (b ∷ bs) ≡ record { bytes = begun ++ p.0; ended = true } ∷ lines_of p.1
    go true z o oe f ih =
        let none : p.0 ≡ [] = cc in
        let same : p.1 ≡ bs = cc in
        rw (z, none, same, append-nil)
    go false z None oe f ih = let no : ◌≡◌ {A = ℕ} 0 1 = cc in absurd (omega arith)
    go false z (Some q) oe f ih =
        let first : p.0 ≡ b ∷ q.0 = cc in
        let same : p.1 ≡ q.1 = cc in
        rw (z, first, same) (ih q oe ∙ ap (λ (bytes : List ℕ). record { bytes = bytes; ended = true } ∷ lines_of q.1) (append_assoc begun (b ∷ []) q.0))

-- no line is
line_stays_open : (begun text : List ℕ) → cut_at 10 text ≡ None → lines_from begun text ≡ last_line (begun ++ text)
line_stays_open begun [] e = sym (ap last_line (append-nil begun))
line_stays_open begun (b ∷ bs) e = go (eqb b 10) refl (cut_at 10 bs) refl e (line_stays_open (begun ++ (b ∷ [])) bs)
  where
    go : (z : Bool) → eqb b 10 ≡ z → (o : Cut) → cut_at 10 bs ≡ o → cond {A = Cut} z (Some ([], bs)) (option_map (λ parts. (b ∷ parts.0, parts.1)) o) ≡ None →
        (cut_at 10 bs ≡ None → lines_from (begun ++ (b ∷ [])) bs ≡ last_line ((begun ++ (b ∷ [])) ++ bs)) → lines_from begun (b ∷ bs) ≡ last_line (begun ++ (b ∷ bs))
    go true z o oe f ih = let no : ◌≡◌ {A = ℕ} 0 1 = cc in absurd (omega arith)
    go false z None oe f ih = rw z (ih oe ∙ ap last_line (append_assoc begun (b ∷ []) bs))
    go false z (Some p) oe f ih = let no : ◌≡◌ {A = ℕ} 0 1 = cc in absurd (omega arith)

-- ---- replies

replies_more : (M : Monitor) (slots : List Slot) (line : Option Call) (lines : List (Option Call)) →
    concat (replies M slots (line ∷ lines)) ≡ reply M slots line ++ concat (replies M (slots_after M slots line) lines)
replies_more M slots None lines = refl
replies_more M slots (Some call) lines = refl

module _ (table : Table) (text : List ℕ) where
  -- the next line is ended, and answered
  pub answered : {after : Table} {line : List ℕ} (front rest : List ℕ) → cut_at 10 text ≡ Some (front, rest) → Turned table (call_in front) line after →
      (to_print table text ≡ line ++ to_print after rest) × (length (lines_of text) ≡ suc (length (lines_of rest)))
  answered {after} {line} front rest e turned =
      let M = window_of table in
      let cut = line_ends [] text (front, rest) e in
      let there : concat (replies M (slots_after M table.slots (call_in front)) (map said (lines_of rest))) ≡ to_print after rest =
      sym (ap (λ (x : Monitor). concat (replies x after.slots (map said (lines_of rest)))) (same_box turned)
      ∙ ap (λ (s : List Slot). concat (replies M s (map said (lines_of rest)))) turned.slots) in (
        ap (λ (lines : List Line). concat (replies M table.slots (map said lines))) cut
            ∙ (replies_more M table.slots (call_in front) (map said (lines_of rest))
            ∙ (ap (λ (x : List ℕ). x ++ concat (replies M (slots_after M table.slots (call_in front)) (map said (lines_of rest)))) (sym turned.printed)
            ∙ ap (λ (x : List ℕ). line ++ x) there)),
        ap length cut,
      )

  -- it is not, and the last
  pub not_ended : 0 < length text → cut_at 10 text ≡ None → (to_print table text ≡ faulty_line ++ to_print table []) × (length (lines_of text) ≡ 1)
  not_ended some e = go text some (line_stays_open [] text e)
    where
      go : (bytes : List ℕ) → 0 < length bytes → lines_of text ≡ last_line bytes → (to_print table text ≡ faulty_line ++ to_print table []) × (length (lines_of text) ≡ 1)
      go [] l cut = absurd (omega (arith, l))
      go (b ∷ bs) l cut = (ap (λ (lines : List Line). concat (replies (window_of table) table.slots (map said lines))) cut, ap length cut)

-- ---- how many lines there are

-- one more than are ended, at most
few_from : (begun text : List ℕ) → length (lines_from begun text) ≤ ends_in text + 1
few_from [] [] = omega arith
few_from (c ∷ cs) [] = omega arith
few_from begun (b ∷ bs) = go (eqb b 10) refl (few_from [] bs) (few_from (begun ++ (b ∷ [])) bs)
  where
    more : ends_in (b ∷ bs) ≡ cond (eqb b 10) 1 0 + ends_in bs
    more = sum_by-cons (λ x. cond (eqb x 10) 1 0) b bs

    go : (z : Bool) → eqb b 10 ≡ z → length (lines_of bs) ≤ ends_in bs + 1 → length (lines_from (begun ++ (b ∷ [])) bs) ≤ ends_in bs + 1 → length (lines_from begun (b ∷ bs)) ≤ ends_in (b ∷ bs) + 1
    go true z new on =
        let lines = ap (λ (t : Bool). length (cond t (record { bytes = begun; ended = true } ∷ lines_of bs) (lines_from (begun ++ (b ∷ [])) bs))) z in
        let ends = more ∙ ap (λ (t : Bool). cond t 1 0 + ends_in bs) z in
        omega arith
    go false z new on =
        let lines = ap (λ (t : Bool). length (cond t (record { bytes = begun; ended = true } ∷ lines_of bs) (lines_from (begun ++ (b ∷ [])) bs))) z in
        let ends = more ∙ ap (λ (t : Bool). cond t 1 0 + ends_in bs) z in
        omega arith

pub few_lines : (text : List ℕ) → length (lines_of text) ≤ ends_in text + 1
few_lines text = few_from [] text

-- in a part of a text no more are ended than in the whole
pub ends_less : (k : ℕ) (text : List ℕ) → ends_in (drop k text) ≤ ends_in text
ends_less k text = omega (arith, sum_by-take-drop (λ b. cond (eqb b 10) 1 0) text k)
