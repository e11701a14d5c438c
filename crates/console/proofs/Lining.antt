-- The lines of an input are the input, cut after each byte 10. Assumes nothing.
use Rattle.std.proofs.Common.{◌≡◌, ℕ, Bool, true, false, eqb, List, [], ◌∷◌, ◌++◌, sym, refl, ap, ◌∙◌, arith}
use Rattle.std.specs.List.{flat_map, AllByRecursion}
use Rattle.std.proofs.ByRecursion.{All-push}
use Rattle.std.proofs.lemmas.List.{append_assoc, append-nil}
use Rattle.std.proofs.lemmas.Bool.{eqb-true, eqb-false}
use Rattle.console.specs.Lines.{Line, lines_from, lines_of, as_read, leads, leading, after_leading}
use Rattle.console.specs.Cut.{Lined, none, not_ended, one_more, NoEndWithin, FirstDoesNotLead, LinesStand}

abbrev NoEnd : List ℕ → Type 0
NoEnd bytes = AllByRecursion (λ b. b ≡ 10 → ⊥) bytes

-- the lines of a text after `begun`
record CutFrom (begun text : List ℕ) : Type 0 where
  whole : flat_map as_read (lines_from begun text) ≡ begun ++ text
  lined : Lined (lines_from begun text)
  no_end_within : NoEnd begun → AllByRecursion NoEndWithin (lines_from begun text)

cut_last : (begun : List ℕ) → CutFrom begun []
cut_last [] = record { whole = refl; lined = none; no_end_within = λ _. tt }
cut_last (b ∷ bs) = record { whole = append-nil ((b ∷ bs) ++ []); lined = not_ended (omega arith); no_end_within = λ h. (h, tt) }

cut_next : (begun : List ℕ) (b : ℕ) (bs : List ℕ) → CutFrom [] bs → CutFrom (begun ++ (b ∷ [])) bs → CutFrom begun (b ∷ bs)
cut_next begun b bs new on = go (eqb b 10) refl
  where
    go : (z : Bool) → eqb b 10 ≡ z → CutFrom begun (b ∷ bs)
    go true e = record {
      whole = rw e (append_assoc begun (10 ∷ []) (flat_map as_read (lines_of bs)) ∙ (ap (λ (x : List ℕ). begun ++ (10 ∷ x)) new.whole ∙ ap (λ (x : ℕ). begun ++ (x ∷ bs)) (sym (eqb-true b 10 e))));
      lined = rw e (one_more new.lined);
      no_end_within = λ h. rw e (h, new.no_end_within tt);
    }
    go false e = record {
      whole = rw e (on.whole ∙ append_assoc begun (b ∷ []) bs);
      lined = rw e on.lined;
      no_end_within = λ h. rw e (on.no_end_within (All-push (λ x. x ≡ 10 → ⊥) begun b h (eqb-false b 10 e)));
    }

cut_from : (begun text : List ℕ) → CutFrom begun text
cut_from begun [] = cut_last begun
cut_from begun (b ∷ bs) = cut_next begun b bs (cut_from [] bs) (cut_from (begun ++ (b ∷ [])) bs)

record Parted (lines : List Line) : Type 0 where
  parts : leading lines ++ after_leading lines ≡ lines
  all_lead : AllByRecursion (λ line. leads line.bytes ≡ true) (leading lines)
  first_call : FirstDoesNotLead (after_leading lines)

parted : (lines : List Line) → Parted lines
parted [] = record { parts = refl; all_lead = tt; first_call = tt }
parted (line ∷ lines) = go (leads line.bytes) refl (parted lines)
  where
    go : (z : Bool) → leads line.bytes ≡ z → Parted lines → Parted (line ∷ lines)
    go true e ih = record { parts = rw e (ap (λ (x : List Line). line ∷ x) ih.parts); all_lead = rw e (e, ih.all_lead); first_call = rw e ih.first_call }
    go false e ih = record { parts = rw e; all_lead = rw e tt; first_call = rw e e }

pub lines_stand : LinesStand
lines_stand input =
    let cut = cut_from [] input in
    let two = parted (lines_of input) in
    record {
      whole = cut.whole;
      lined = cut.lined;
      no_end_within = cut.no_end_within tt;
      parts = two.parts;
      all_lead = two.all_lead;
      first_call = two.first_call;
    }
