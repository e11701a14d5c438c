-- The monitor of the table that an accepted roster lists is sound, under any scheme that keeps the laws. Assumes nothing.
use Rattle.std.proofs.Common.{◌≡◌, ℕ, ◌<◌, Bool, true, false, cond, List, [], ◌∷◌, map, length, take, Some, None, Ok, Err, Option, Result, unwrap_or, sym, refl, ap, ◌∙◌, subst, inr, arith}
use Rattle.std.specs.List.{AllByRecursion}
use Rattle.std.proofs.ByRecursion.{All-push}
use Rattle.labels.specs.Laws.{Lawful}
use Rattle.table.specs.declared.table.Slot.{Slot}
use Rattle.table.specs.declared.table.Table.{Table}
use Rattle.table.specs.Slots.{person_at, label_at, is_listed, value_at}
use Rattle.roster.specs.declared.fault.RosterFault.{RosterFault}
use Rattle.roster.specs.Spelling.{Kind, person, slot, Entry}
use Rattle.roster.specs.Reading.{label_limit, roster_of}
use Rattle.roster.specs.Told.{names, given, AllInOrder, none, one_more, Tells, too_long, accepted, formless, refused}
use Rattle.roster.proofs.Exactly.{exact}
use Rattle.rows.specs.declared.row.Row.{Row}
use Rattle.rows.specs.declared.fault.RowFault.{RowFault}
use Rattle.sheets.specs.declared.fault.SheetFault.{SheetFault}
use Rattle.sheets.specs.Parsing.{block_of}
use Rattle.sheets.specs.Programs.{Block, nil}
use Rattle.sheets.specs.Reading.{read_sheet}
use Rattle.judging.specs.Judging.{judged}
use Rattle.judging.specs.Typing.{Typed}
use Rattle.judging.proofs.Exactly.{judged_exactly}
use Rattle.noninterference.specs.Noninterference.{Codes}
use Rattle.noninterference.specs.Strike.{kept, Sound, Untraced}
use Rattle.noninterference.proofs.Strike.{struck}
use Rattle.monitor.specs.declared.call.Call as call
use Rattle.monitor.specs.declared.call.Answer as answer
use Rattle.monitor.specs.Boxes.{unless_faulty, checked_rows, box_of}
use Rattle.monitor.specs.Calls.{answer_of}
use Rattle.monitor.specs.Play.{made_calls, Answered, Unmarked, BoxesAreUntraced}

-- ---- the labels that a roster gives are codes

fit : {width : ℕ} {es : List Entry} → AllInOrder width es → AllByRecursion (λ e. e.label < label_limit width) es
fit none = tt
fit (one_more before e) = All-push _ _ _ (fit before) e.fits

given_fits : (width : ℕ) (k : Kind) (i l : ℕ) (es : List Entry) → AllByRecursion (λ e. e.label < label_limit width) es → given k i es ≡ Some l → l < label_limit width
given_fits width k i l [] h e = let z : ◌≡◌ {A = ℕ} 0 1 = cc in absurd (omega arith)
given_fits width k i l (x ∷ es) h e = go (given_fits width k i l es h.1) (names k i x) e where
  go : (given k i es ≡ Some l → l < label_limit width) → (b : Bool) → cond b (Some x.label) (given k i es) ≡ Some l → l < label_limit width
  go more true q = let same : x.label ≡ l = cc in subst (λ (n : ℕ). n < label_limit width) same h.0
  go more false q = more q

coded : (width : ℕ) (k : Kind) (es : List Entry) (labels : ℕ → Option ℕ) → AllInOrder width es → ((i : ℕ) → labels i ≡ given k i es) → Codes labels
coded width k es labels order are i l e = omega (arith, given_fits width k i l es (fit order) (sym (are i) ∙ e))

record CodedTable (t : Table) : Type 0 where
  people : Codes (person_at t.people)
  slots : Codes (label_at t.slots)

listed_codes : (width : ℕ) (text : List ℕ) (r : Result Table RosterFault) → Tells width text r → (t : Table) → r ≡ Ok t → CodedTable t
listed_codes width text _ (too_long l) t e = let z : ◌≡◌ {A = ℕ} 0 1 = cc in absurd (omega arith)
listed_codes width text _ (accepted {t = u} es l w order holds) t e =
    let same : u ≡ t = cc in
    subst CodedTable same
    (record { people = coded width person es _ order holds.people; slots = coded width slot es _ order holds.slots })
listed_codes width text _ (formless es rest l w order some at) t e = let z : ◌≡◌ {A = ℕ} 0 1 = cc in absurd (omega arith)
listed_codes width text _ (refused es x rest l w order at) t e = let z : ◌≡◌ {A = ℕ} 0 1 = cc in absurd (omega arith)

module _ (flows : ℕ → ℕ → Bool) (joins : ℕ → ℕ → ℕ) where
  -- ---- what passes the check is typed

  module _ (labels : ℕ → Option ℕ) (p : ℕ) (b : Block) where
    judged_typed : (c : Block) (o : Option RowFault) → judged flows joins labels p c ≡ o → unless_faulty o c ≡ inr b → Typed flows joins labels p p b
    judged_typed c None q e = let same : c ≡ b = cc in subst (Typed flows joins labels p p) same (((judged_exactly flows joins labels).none_at_fault p c).0 q)
    judged_typed c (Some f) q e = let z : ◌≡◌ {A = ℕ} 0 1 = cc in absurd (omega arith)

    rows_typed : (r : Result (List Row) SheetFault) → checked_rows flows joins labels p r ≡ inr b → Typed flows joins labels p p b
    rows_typed (Err f) e = let z : ◌≡◌ {A = ℕ} 0 1 = cc in absurd (omega arith)
    rows_typed (Ok rows) e = let c = unwrap_or (block_of rows) nil in judged_typed c (judged flows joins labels p c) refl e

  module _ (bits : ℕ) (lawful : Lawful flows joins bits) (text : List ℕ) (listed : Table) (read : roster_of bits text ≡ Ok listed) where
    pub sound : Sound (box_of flows joins bits listed)
    sound =
        let codes = listed_codes bits text (roster_of bits text) (exact.told bits text) listed read in
        record {
          lawful = lawful;
          people_codes = codes.people;
          slot_codes = codes.slots;
          checked = λ n p sheet b who passes. rows_typed (label_at listed.slots) p b (read_sheet (λ i. is_listed (label_at listed.slots i)) sheet) passes;
        }

    pub untraced : Untraced (box_of flows joins bits listed) listed.slots
    untraced = struck.one_box (box_of flows joins bits listed) sound listed.slots

    -- the laws, of the answers that were written and of the table that was left
    pub unmarked : (t : Table) → roster_of bits text ≡ Ok t → (calls : List call.Call) (places written : List answer.Answer) (after : Table) → Answered (box_of flows joins bits t) t calls places written after →
        Unmarked (box_of flows joins bits listed) listed (made_calls calls places) (map answer_of (take (length calls) written)) after
    unmarked t read' calls places written after answered =
        let same : t ≡ listed = let both : Ok t ≡ Ok listed = sym read' ∙ read in cc in
        let a : Answered (box_of flows joins bits listed) listed calls places written after =
        subst (λ (x : Table). Answered (box_of flows joins bits x) x calls places written after) same answered in
        let laws = untraced in
        let M = box_of flows joins bits listed in
        let all = made_calls calls places in
        record {
          changes = λ i n. laws.touched all i (λ e. n (ap (λ (s : List Slot). value_at s i) a.slots_are ∙ e));
          answered = λ ℓ code. ap (kept M ℓ all) a.answers_are ∙ laws.answered ℓ code all;
          ended = λ ℓ code i l h f. ap (λ (s : List Slot). value_at s i) a.slots_are ∙ laws.ended ℓ code all i l h f;
        }

pub boxes_are_untraced : BoxesAreUntraced
boxes_are_untraced = untraced
