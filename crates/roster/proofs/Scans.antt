-- The reading of a text, byte by byte and line by line. Assumes nothing.
use Rattle.std.proofs.Common.{◌≡◌, ℕ, zero, suc, ◌<◌, Bool, cond, List, [], ◌∷◌, ◌++◌, Some, None, Ok, Err, Option, Result, sym, refl, ap, ◌∙◌, arith}
use lib.Dec.{eqb-suc-zero}
use Rattle.roster.specs.declared.fault.RosterFault.{RosterFault}
use Rattle.roster.specs.declared.fault.RosterFault.TheVariants.{Line}
use Rattle.roster.specs.declared.fault.LineReason.{LineReason}
use Rattle.roster.specs.declared.fault.LineReason.TheVariants.{Form}
use Rattle.table.specs.declared.table.Table.{Table}
use Rattle.roster.specs.Spelling.{Entry, spell, letter}
use Rattle.roster.specs.Reading.{Place, start, Next, never, more, whole, after, fault_in, with_entry, read_from}
use Rattle.roster.proofs.Leads.{Lead, found, stuck, lead, lead_step, lead_spell}

-- what a line of the form comes to
abbrev pub listed : Option LineReason → ℕ → Table → ℕ → Entry → List ℕ → Result Table RosterFault
listed (Some reason) w t i e bs = Err (Line i reason)
listed None w t i e bs = read_from w (with_entry e t) (suc i) start 0 bs

-- what the next byte comes to
abbrev pub scanned : Next → ℕ → Table → ℕ → ℕ → List ℕ → Result Table RosterFault
scanned never w t i k bs = Err (Line i (Form k))
scanned (more q) w t i k bs = read_from w t i q (suc k) bs
scanned (whole e) w t i k bs = listed (fault_in w e t) w t i e bs

by_judge : (w : ℕ) (t : Table) (i : ℕ) (e : Entry) (bs : List ℕ) (o : Option LineReason) → elim o [ Some reason ↦ Err (Line i reason) | None ↦ read_from w (with_entry e t) (suc i) start 0 bs ] ≡ listed o w t i e bs
by_judge w t i e bs (Some reason) = refl
by_judge w t i e bs None = refl

by_next : (w : ℕ) (t : Table) (i k : ℕ) (bs : List ℕ) (n : Next) → elim n [ never ↦ Err (Line i (Form k)) | more q ↦ read_from w t i q (suc k) bs | whole e ↦ elim (fault_in w e t) [ Some reason ↦ Err (Line i reason) | None ↦ read_from w (with_entry e t) (suc i) start 0 bs ] ] ≡ scanned n w t i k bs
by_next w t i k bs never = refl
by_next w t i k bs (more q) = refl
by_next w t i k bs (whole e) = by_judge w t i e bs (fault_in w e t)

pub scan_step : (w : ℕ) (t : Table) (i : ℕ) (p : Place) (k b : ℕ) (bs : List ℕ) (n : Next) → after p b ≡ n → read_from w t i p k (b ∷ bs) ≡ scanned n w t i k bs
unfolding read_from
scan_step w t i p k b bs n e = by_next w t i k bs (after p b) ∙ ap (λ (x : Next). scanned x w t i k bs) e

pub scan_none : (w : ℕ) (t : Table) (i : ℕ) (p : Place) → read_from w t i p 0 [] ≡ Ok t
unfolding read_from
scan_none w t i p = refl

pub scan_ends : (w : ℕ) (t : Table) (i : ℕ) (p : Place) (k : ℕ) → 0 < k → read_from w t i p k [] ≡ Err (Line i (Form k))
unfolding read_from
scan_ends w t i p zero h = absurd (omega arith)
scan_ends w t i p (suc k) h = ap (λ (z : Bool). cond z (Ok t) (Err (Line i (Form (suc k))))) (eqb-suc-zero k)

-- what the first line of a text comes to
abbrev pub leading : Lead → ℕ → Table → ℕ → Result Table RosterFault
leading (stuck k) w t i = Err (Line i (Form k))
leading (found e rest) w t i = listed (fault_in w e t) w t i e rest

pub scan_lead : (w : ℕ) (t : Table) (i : ℕ) (bs : List ℕ) (p : Place) (k b : ℕ) → read_from w t i p k (b ∷ bs) ≡ leading (lead p k (b ∷ bs)) w t i
scan_lead w t i [] p k b = go (after p b) refl
  where
    go : (n : Next) → after p b ≡ n → read_from w t i p k (b ∷ []) ≡ leading (lead p k (b ∷ [])) w t i
    go never e = scan_step w t i p k b [] never e ∙ ap (λ (l : Lead). leading l w t i) (sym (lead_step p k b [] never e))
    go (more q) e =
        scan_step w t i p k b [] (more q) e ∙ (scan_ends w t i q (suc k) (omega arith) ∙ ap (λ (l : Lead). leading l w t i) (sym (lead_step p k b [] (more q) e)))
    go (whole z) e = scan_step w t i p k b [] (whole z) e ∙ ap (λ (l : Lead). leading l w t i) (sym (lead_step p k b [] (whole z) e))
scan_lead w t i (c ∷ bs) p k b = go (after p b) refl (λ q. scan_lead w t i bs q (suc k) c)
  where
    go : (n : Next) → after p b ≡ n → ((q : Place) → read_from w t i q (suc k) (c ∷ bs) ≡ leading (lead q (suc k) (c ∷ bs)) w t i) → read_from w t i p k (b ∷ c ∷ bs) ≡ leading (lead p k (b ∷ c ∷ bs)) w t i
    go never e on = scan_step w t i p k b (c ∷ bs) never e ∙ ap (λ (l : Lead). leading l w t i) (sym (lead_step p k b (c ∷ bs) never e))
    go (more q) e on = scan_step w t i p k b (c ∷ bs) (more q) e ∙ (on q ∙ ap (λ (l : Lead). leading l w t i) (sym (lead_step p k b (c ∷ bs) (more q) e)))
    go (whole z) e on = scan_step w t i p k b (c ∷ bs) (whole z) e ∙ ap (λ (l : Lead). leading l w t i) (sym (lead_step p k b (c ∷ bs) (whole z) e))

-- a spelled line
pub scan_spell : (w : ℕ) (t : Table) (i : ℕ) (e : Entry) (rest : List ℕ) → read_from w t i start 0 (spell e ++ rest) ≡ listed (fault_in w e t) w t i e rest
scan_spell w t i e rest =
    scan_lead w t i _ start 0 (letter e.kind) ∙ ap (λ (l : Lead). leading l w t i) (lead_spell e rest)
