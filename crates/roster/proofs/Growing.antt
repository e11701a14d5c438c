-- Entries listed one after the other in a table: what it then holds, and what is at fault in the next. Assumes nothing.
use Rattle.std.proofs.Common.{◌≡◌, ℕ, ◌<◌, Bool, true, false, cond, eqb, ltb, List, [], ◌∷◌, ◌++◌, length, get_or, set, replicate, ℤ, pos, Some, None, Option, sym, refl, ap, ◌∙◌, subst, ⊎_elim, arith}
use Rattle.std.proofs.lemmas.List.{length-set, length-replicate, get_or-set_same, get_or-set_other, get_or-replicate, get_or_past, ext_get_or}
use Rattle.std.proofs.lemmas.Bool.{cases_lt, cases_eq, eq-eqb, ne_eqb, lt-ltb, le-ltb, ltb-true, ltb-false}
use Rattle.table.specs.declared.table.Slot.{Slot}
use Rattle.table.specs.declared.table.Table.{Table}
use Rattle.table.specs.Slots.{blank, blank_table, value_at, is_listed}
use Rattle.roster.specs.declared.fault.LineReason.{LineReason}
use Rattle.roster.specs.declared.fault.LineReason.TheVariants.{Number, ListedBefore, Label}
use Rattle.roster.specs.Spelling.{Kind, person, slot, Entry}
use Rattle.roster.specs.Reading.{limit, label_limit, listed_before, fault_in, with_label, with_entry}
use Rattle.roster.specs.Told.{names, given, InOrder, AtFault, out_of_range, not_new, too_wide, Holds}

-- ---- what entries give, with one more

abbrev or_else : Option ℕ → Option ℕ → Option ℕ
or_else (Some l) o = Some l
or_else None o = o

or_none : (o : Option ℕ) → o ≡ or_else o None
or_none (Some l) = refl
or_none None = refl

-- the last entry gives what the others do not
given_more : (k : Kind) (i : ℕ) (es : List Entry) (e : Entry) → given k i (es ++ (e ∷ [])) ≡ or_else (given k i es) (cond (names k i e) (Some e.label) None)
given_more k i [] e = refl
given_more k i (x ∷ es) e = go (names k i x) (given_more k i es e)
  where
    go : (z : Bool) → given k i (es ++ (e ∷ [])) ≡ or_else (given k i es) (cond (names k i e) (Some e.label) None) → cond z (Some x.label) (given k i (es ++ (e ∷ []))) ≡ or_else (cond z (Some x.label) (given k i es)) (cond (names k i e) (Some e.label) None)
    go true on = refl
    go false on = on

-- ---- the table with one more

-- a column of labels in which one is set that was not there
set_more : {X : Type 0} (f : X → Option ℕ) (xs : List X) (x d : X) (g : ℕ → Option ℕ) (n l : ℕ) → f x ≡ Some l → n < length xs → g n ≡ None → ((i : ℕ) → f (get_or xs i d) ≡ g i) → (i : ℕ) → f (get_or (set xs n x) i d) ≡ or_else (g i) (cond (eqb n i) (Some l) None)
set_more f xs x d g n l is small new all i =
    ⊎_elim
    (λ e.
    ap (λ (j : ℕ). f (get_or (set xs n x) j d)) (sym e)
    ∙ (ap f (get_or-set_same xs n x d small)
    ∙ (is
    ∙ (sym (ap (λ (z : Bool). cond z (Some l) None) (eq-eqb n i e))
    ∙ ap (λ (o : Option ℕ). or_else o (cond (eqb n i) (Some l) None)) (sym new ∙ ap g e)))))
    (λ ne.
    ap f (get_or-set_other xs n i x d (λ e. ne (sym e)))
    ∙ (all i ∙ (or_none (g i) ∙ ap (λ (z : Bool). or_else (g i) (cond z (Some l) None)) (sym (ne_eqb n i ne)))))
    (cases_eq n i)

-- the slots that are set have the value 0
value_more : (slots : List Slot) (n l : ℕ) → n < length slots → ((i : ℕ) → value_at slots i ≡ pos 0) → (i : ℕ) → value_at (set slots n (record { label = Some l; value = pos 0 })) i ≡ pos 0
value_more slots n l small all i =
    let s : Slot = record { label = Some l; value = pos 0 } in
    ⊎_elim
    (λ e. ap (λ (j : ℕ). value_at (set slots n s) j) (sym e) ∙ ap (λ (x : Slot). x.value) (get_or-set_same slots n s blank small))
    (λ ne. ap (λ (x : Slot). x.value) (get_or-set_other slots n i s blank (λ e. ne (sym e))) ∙ all i)
    (cases_eq n i)

holds_label : (t : Table) (es : List Entry) (k : Kind) (n l : ℕ) → Holds t es → n < limit k → given k n es ≡ None → Holds (with_label k n l t) (es ++ (record { kind = k; number = n; label = l } ∷ []))
holds_label t es person n l h small new =
    let e : Entry = record { kind = person; number = n; label = l } in
    record {
      people = λ i. set_more (λ o. o) t.people (Some l) None (λ j. given person j es) n l refl (omega (arith, h.sixteen, small)) new h.people i ∙ sym (given_more person i es e);
      slots = λ i. h.slots i ∙ (or_none (given slot i es) ∙ sym (given_more slot i es e));
      values = h.values;
      sixteen = length-set t.people n (Some l) ∙ h.sixteen;
      sixty_four = h.sixty_four;
    }
holds_label t es slot n l h small new =
    let e : Entry = record { kind = slot; number = n; label = l } in
    let s : Slot = record { label = Some l; value = pos 0 } in
    record {
      people = λ i. h.people i ∙ (or_none (given person i es) ∙ sym (given_more person i es e));
      slots = λ i. set_more (λ (x : Slot). x.label) t.slots s blank (λ j. given slot j es) n l refl (omega (arith, h.sixty_four, small)) new h.slots i ∙ sym (given_more slot i es e);
      values = value_more t.slots n l (omega (arith, h.sixty_four, small)) h.values;
      sixteen = h.sixteen;
      sixty_four = length-set t.slots n s ∙ h.sixty_four;
    }

pub holds_more : {w : ℕ} {t : Table} {es : List Entry} {e : Entry} → Holds t es → InOrder w es e → Holds (with_entry e t) (es ++ (e ∷ []))
holds_more {w} {t} {es} {e} h o = holds_label t es e.kind e.number e.label h o.in_range o.new

-- ---- the blank table

same_elements : {X : Type 0} (x : X) (n i : ℕ) → get_or (replicate n x) i x ≡ x
same_elements x n i = ⊎_elim (λ l. get_or-replicate n i x x l) (λ l. get_or_past (replicate n x) i x (omega (arith, length-replicate n x))) (cases_lt i n)

pub holds_none : Holds blank_table []
holds_none = record {
  people = λ i. same_elements None 16 i;
  slots = λ i. ap (λ (s : Slot). s.label) (same_elements blank 64 i);
  values = λ i. ap (λ (s : Slot). s.value) (same_elements blank 64 i);
  sixteen = length-replicate {A = Option ℕ} 16 None;
  sixty_four = length-replicate 64 blank;
}

-- ---- there is one table that holds the entries

same_slot : (s u : Slot) → s.label ≡ u.label → s.value ≡ u.value → s ≡ u
same_slot s u p q = ap (λ (l : Option ℕ). record { label = l; value = s.value }) p ∙ ap (λ (v : ℤ). record { label = u.label; value = v }) q

pub same_table : {t u : Table} {es : List Entry} → Holds t es → Holds u es → t ≡ u
same_table {t} {u} h k =
    let p : t.people ≡ u.people = ext_get_or None t.people u.people (h.sixteen ∙ sym k.sixteen) (λ i l. h.people i ∙ sym (k.people i)) in
    let q : t.slots ≡ u.slots =
    ext_get_or blank t.slots u.slots (h.sixty_four ∙ sym k.sixty_four)
    (λ i l. same_slot (get_or t.slots i blank) (get_or u.slots i blank) (h.slots i ∙ sym (k.slots i)) (h.values i ∙ sym (k.values i))) in
    ap (λ (x : List (Option ℕ)). record { people = x; slots = t.slots }) p ∙ ap (λ (x : List Slot). record { people = u.people; slots = x }) q

-- ---- what is at fault in an entry

abbrev judged : Bool → Option ℕ → Bool → Option LineReason
judged small o fits = cond small (cond (is_listed o) (Some ListedBefore) (cond fits None (Some Label))) (Some Number)

judged_by : {z z' : Bool} {o o' : Option ℕ} {y y' : Bool} → z ≡ z' → o ≡ o' → y ≡ y' → judged z o y ≡ judged z' o' y'
judged_by {z} {z'} {o} {o'} {y} {y'} p q r = ap (λ (x : Bool). judged x o y) p ∙ (ap (λ (x : Option ℕ). judged z' x y) q ∙ ap (λ (x : Bool). judged z' o' x) r)

listed_given : {t : Table} {es : List Entry} → Holds t es → (k : Kind) (n : ℕ) → listed_before k n t ≡ is_listed (given k n es)
listed_given h person n = ap is_listed (h.people n)
listed_given h slot n = ap is_listed (h.slots n)

module _ (w : ℕ) (e : Entry) {t : Table} {es : List Entry} (h : Holds t es) where
  fault_is : fault_in w e t ≡ judged (ltb e.number (limit e.kind)) (given e.kind e.number es) (ltb e.label (label_limit w))
  fault_is =
      ap (λ (z : Bool). cond (ltb e.number (limit e.kind)) (cond z (Some ListedBefore) (cond (ltb e.label (label_limit w)) None (Some Label))) (Some Number))
      (listed_given h e.kind e.number)

  pub none_at_fault : InOrder w es e → fault_in w e t ≡ None
  none_at_fault o = fault_is ∙ judged_by (lt-ltb e.number (limit e.kind) o.in_range) o.new (lt-ltb e.label (label_limit w) o.fits)

  pub some_at_fault : {reason : LineReason} → AtFault w es e reason → fault_in w e t ≡ Some reason
  some_at_fault (out_of_range l) = fault_is ∙ ap (λ (z : Bool). judged z (given e.kind e.number es) (ltb e.label (label_limit w))) (le-ltb e.number (limit e.kind) l)
  some_at_fault (not_new l g) = fault_is ∙ judged_by {y = ltb e.label (label_limit w)} (lt-ltb e.number (limit e.kind) l) g refl
  some_at_fault (too_wide l g m) = fault_is ∙ judged_by (lt-ltb e.number (limit e.kind) l) g (le-ltb e.label (label_limit w) m)

  -- what a verdict says of the entry
  abbrev pub Says : Option LineReason → Type 0
  Says (Some reason) = AtFault w es e reason
  Says None = InOrder w es e

  pub says : (o : Option LineReason) → fault_in w e t ≡ o → Says o
  says o is =
      subst Says (sym fault_is ∙ is) (go (ltb e.number (limit e.kind)) refl (given e.kind e.number es) refl (ltb e.label (label_limit w)) refl)
    where
      go : (z : Bool) → ltb e.number (limit e.kind) ≡ z → (g : Option ℕ) → given e.kind e.number es ≡ g → (y : Bool) → ltb e.label (label_limit w) ≡ y → Says (judged z g y)
      go false p g q y r = out_of_range (ltb-false e.number (limit e.kind) p)
      go true p (Some l) q y r = not_new (ltb-true e.number (limit e.kind) p) q
      go true p None q true r = record { in_range = ltb-true e.number (limit e.kind) p; new = q; fits = ltb-true e.label (label_limit w) r }
      go true p None q false r = too_wide (ltb-true e.number (limit e.kind) p) q (ltb-false e.label (label_limit w) r)
