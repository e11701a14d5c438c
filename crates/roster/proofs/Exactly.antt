-- What is read of a text is what is told of it. Assumes nothing.
use Rattle.std.proofs.Common.{◌≡◌, ℕ, zero, suc, ◌<◌, ◌≤◌, Bool, cond, List, [], ◌∷◌, ◌++◌, length, Some, None, Ok, Err, Option, Result, sym, refl, ap, ◌∙◌, subst, ⊎_elim, arith, pow_mono}
use native.Mathlib.Nat.{min-eq_left}
use Rattle.std.proofs.lemmas.List.{append_assoc, append-nil, length-append, length_push}
use Rattle.std.proofs.lemmas.Bool.{cases_lt, lt-ltb, le-ltb}
use Rattle.roster.specs.declared.fault.RosterFault.{RosterFault}
use Rattle.roster.specs.declared.fault.RosterFault.TheVariants.{TooLong}
use Rattle.roster.specs.declared.fault.LineReason.{LineReason}
use Rattle.table.specs.declared.table.Table.{Table}
use Rattle.table.specs.Slots.{blank_table}
use Rattle.roster.specs.Spelling.{Entry, spell, spelled}
use Rattle.roster.specs.Reading.{start, fault_in, with_entry, read_from, lines_of, roster_of}
use Rattle.roster.specs.Told.{AllInOrder, none, one_more, Holds, Tells, too_long, accepted, formless, refused, Exact}
use Rattle.roster.proofs.Leads.{Lead, found, stuck, lead, found_is}
use Rattle.roster.proofs.Faulty.{stuck_is, scan_fault}
use Rattle.roster.proofs.Scans.{listed, leading, scan_none, scan_lead, scan_spell}
use Rattle.roster.proofs.Growing.{holds_none, holds_more, same_table, none_at_fault, some_at_fault, says}

-- ---- entries in order

spelled_more : (es : List Entry) (e : Entry) → spelled (es ++ (e ∷ [])) ≡ spelled es ++ spell e
spelled_more [] e = append-nil (spell e)
spelled_more (x ∷ es) e = ap (λ (xs : List ℕ). spell x ++ xs) (spelled_more es e) ∙ sym (append_assoc (spell x) (spelled es) (spell e))

-- and what comes after them
spelled_then : (es : List Entry) (e : Entry) (rest : List ℕ) → spelled es ++ (spell e ++ rest) ≡ spelled (es ++ (e ∷ [])) ++ rest
spelled_then es e rest = sym (append_assoc (spelled es) (spell e) rest) ∙ ap (λ (xs : List ℕ). xs ++ rest) (sym (spelled_more es e))

one_longer : (es : List Entry) (e : Entry) → suc (length es) ≡ length (es ++ (e ∷ []))
one_longer es e = omega (arith, length_push es e)

-- they are read to the table that holds them
record Read (w : ℕ) (es : List Entry) : Type 0 where
  table : Table
  holds : Holds table es
  onward : (rest : List ℕ) → lines_of w (spelled es ++ rest) ≡ read_from w table (length es) start 0 rest

read : {w : ℕ} {es : List Entry} → AllInOrder w es → Read w es
read none = record { table = blank_table; holds = holds_none; onward = λ rest. refl }
read {w} (one_more {es} {e} before o) =
    let r = read before in
    let t = r.table in
    record {
      table = with_entry e t;
      holds = holds_more r.holds o;
      onward = λ rest.
          ap (lines_of w) (sym (spelled_then es e rest))
          ∙ (r.onward (spell e ++ rest)
          ∙ (scan_spell w t (length es) e rest
          ∙ (ap (λ (o : Option LineReason). listed o w t (length es) e rest) (none_at_fault w e r.holds o)
          ∙ ap (λ (i : ℕ). read_from w (with_entry e t) i start 0 rest) (one_longer es e))));
    }

-- ---- what is read is told

-- what is told of the text from `rest` on, where the entries es came before
Onward : ℕ → List ℕ → ℕ → Type 0
Onward w text n = (es : List Entry) (t : Table) (rest : List ℕ) → length rest ≤ n → text ≡ spelled es ++ rest → AllInOrder w es → Holds t es → Tells w text (read_from w t (length es) start 0 rest)

tells_line : (w : ℕ) (text : List ℕ) (n : ℕ) → length text ≤ 4096 → Onward w text n → (es : List Entry) (t : Table) (rest : List ℕ) → length rest ≤ suc n → 0 < length rest → text ≡ spelled es ++ rest → AllInOrder w es → Holds t es → (l : Lead) → lead start 0 rest ≡ l → Tells w text (leading l w t (length es))
unfolding Onward
tells_line w text n short on es t rest le some is ls h (stuck k) at = formless es rest short is ls some (stuck_is rest start 0 k refl at)
tells_line w text n short on es t rest le some is ls h (found e tail) at = go (fault_in w e t) refl
  where
    here : rest ≡ spell e ++ tail
    here = found_is rest start 0 e tail at

    line : text ≡ spelled es ++ (spell e ++ tail)
    line = is ∙ ap (λ (xs : List ℕ). spelled es ++ xs) here

    go : (o : Option LineReason) → fault_in w e t ≡ o → Tells w text (listed o w t (length es) e tail)
    go (Some reason) j = refused es e tail short line ls (says w e h (Some reason) j)
    go None j =
        let o = says w e h None j in
        let less : length tail ≤ n = omega (arith, ap length here, length-append (spell e) tail) in
        subst (λ (i : ℕ). Tells w text (read_from w (with_entry e t) i start 0 tail)) (sym (one_longer es e))
        (on (es ++ (e ∷ [])) (with_entry e t) tail less (line ∙ spelled_then es e tail) (one_more ls o) (holds_more h o))

tells_on : (w : ℕ) (text : List ℕ) → length text ≤ 4096 → (n : ℕ) → Onward w text n
unfolding Onward
tells_on w text short n es t [] le is ls h = subst (Tells w text) (sym (scan_none w t (length es) start)) (accepted es short (is ∙ append-nil (spelled es)) ls h)
tells_on w text short zero es t (b ∷ bs) le is ls h = absurd (omega (arith, le))
tells_on w text short (suc n) es t (b ∷ bs) le is ls h =
    subst (Tells w text) (sym (scan_lead w t (length es) bs start 0 b)) (tells_line w text n short (tells_on w text short n) es t (b ∷ bs) le (omega arith) is ls h (lead start 0 (b ∷ bs)) refl)

roster_long : (w : ℕ) (text : List ℕ) → 4096 < length text → roster_of w text ≡ Err TooLong
roster_long w text l = ap (λ (z : Bool). cond z (Err TooLong) (lines_of w text)) (lt-ltb 4096 (length text) l)

roster_short : (w : ℕ) (text : List ℕ) → length text ≤ 4096 → roster_of w text ≡ lines_of w text
roster_short w text l = ap (λ (z : Bool). cond z (Err TooLong) (lines_of w text)) (le-ltb 4096 (length text) l)

told : (w : ℕ) (text : List ℕ) → Tells w text (roster_of w text)
unfolding Onward
told w text =
    ⊎_elim
    (λ l. subst (Tells w text) (sym (roster_long w text l)) (too_long l))
    (λ l. subst (Tells w text) (sym (roster_short w text l)) (tells_on w text l (length text) [] blank_table text (omega arith) refl none holds_none))
    (cases_lt 4096 (length text))

-- ---- nothing else is told

after_entries : {w : ℕ} {text : List ℕ} {es : List Entry} (rest : List ℕ) → length text ≤ 4096 → text ≡ spelled es ++ rest → (r : Read w es) → roster_of w text ≡ read_from w r.table (length es) start 0 rest
after_entries {w} {text} rest short is r = roster_short w text short ∙ (ap (lines_of w) is ∙ r.onward rest)

only : (w : ℕ) (text : List ℕ) (r : Result Table RosterFault) → Tells w text r → r ≡ roster_of w text
only w text r (too_long l) = sym (roster_long w text l)
only w text r (accepted {t} es short is ls h) =
    let x = read ls in
    ap Ok (same_table h x.holds) ∙ sym (after_entries [] short (is ∙ sym (append-nil (spelled es))) x ∙ scan_none w x.table (length es) start)
only w text r (formless {k} es rest short is ls some f) =
    let x = read ls in
    sym (after_entries rest short is x ∙ scan_fault w x.table (length es) rest k some f)
only w text r (refused {reason} es e rest short is ls j) =
    let x = read ls in
    let t = x.table in
    sym (after_entries (spell e ++ rest) short is x ∙ (scan_spell w t (length es) e rest ∙ ap (λ (o : Option LineReason). listed o w t (length es) e rest) (some_at_fault w e x.holds j)))

pub exact : Exact
exact = record { told = told; only = only; limited = λ w l. min-eq_left (pow_mono l) }
