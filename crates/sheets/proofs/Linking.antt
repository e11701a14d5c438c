-- The walk that makes the table of jumps: what holds before each row, whatever rows come after it. Assumes nothing.
use Rattle.std.proofs.Common.{◌≡◌, ℕ, suc, ◌+◌, ◌<◌, Bool, true, false, cond, ltb, ◌≢◌, ◌⊎◌, List, [], ◌∷◌, ◌++◌, length, get_or, drop, set, Some, None, Ok, Err, Option, Result, sym, refl, ap, ◌∙◌, subst, inl, inr, append_assoc, arith, length-append, length-set, below_more}
use native.Mathlib.Decide.{ℕ_discrete}
use Rattle.std.proofs.lemmas.List.{append-nil, at_drop_more, get_or_at, get_or-set_same, get_or-set_other}
use Rattle.sheets.specs.Jumps.{closing, partner, Leads, noted}
use Rattle.sheets.specs.Walk.{branch, opened, entered, ended}
use Rattle.sheets.specs.declared.walker.Open.{Open}
use Rattle.sheets.specs.declared.walker.Open.TheVariants.{InThen, InElse, InLoop}
use Rattle.rows.specs.declared.row.Row.{Row}
use Rattle.rows.specs.declared.row.Row.TheVariants.{Idle, PutConstant, SlotWithConstant, TwoSlots, If, Else, While, End}
use Rattle.rows.specs.declared.fault.RowFault.{RowFault}
use Rattle.rows.specs.declared.fault.RowReason.TheVariants.{TooDeep}

-- where row k leads
abbrev pub leads_to : List Row → ℕ → ℕ
leads_to rows k = partner (get_or rows k Idle) k (drop (k + 1) rows)

-- The open blocks, the latest at depth p: where each leads is where a scan from row i at its depth ends.
abbrev pub Pending : List Row → ℕ → ℕ → List Open → Type 0
Pending rows i p [] = Unit {0}
Pending rows i p (o ∷ st) = (branch o < i) × (leads_to rows (branch o) ≡ i + closing p (drop i rows)) × Pending rows i (suc p) st

-- row k opened a part that is still open
abbrev pub Held : ℕ → List Open → Type 0
Held k [] = ⊥
Held k (o ∷ st) = (k ≡ branch o) ⊎ Held k st

-- each row before row i that is not held has its jump
abbrev pub LedBut : List Row → List ℕ → ℕ → List Open → Type 0
LedBut rows jumps i st = (k : ℕ) → k < i → Held k st ⊎ (get_or jumps k 0 ≡ leads_to rows k)

pub record Marked (rows : List Row) (jumps : List ℕ) (i : ℕ) (st : List Open) : Type 0 where
  pub long : length jumps ≡ 256
  pub pending : Pending rows i 0 st
  pub led : LedBut rows jumps i st

module _ (rows : List Row) (i : ℕ) where
  -- the scans go on by one row
  pend_plain : ((n : ℕ) → closing n (drop i rows) ≡ suc (closing n (drop (i + 1) rows))) → (p : ℕ) (st : List Open) → Pending rows i p st → Pending rows (i + 1) p st
  pend_plain f p [] h = tt
  pend_plain f p (o ∷ st) h = (omega (arith, h.0), omega (arith, h.1, f p), pend_plain f (suc p) st h.2)

  pend_open : ((n : ℕ) → closing n (drop i rows) ≡ suc (closing (suc n) (drop (i + 1) rows))) → (p : ℕ) (st : List Open) → Pending rows i p st → Pending rows (i + 1) (suc p) st
  pend_open f p [] h = tt
  pend_open f p (o ∷ st) h = (omega (arith, h.0), omega (arith, h.1, f p), pend_open f (suc p) st h.2)

  pend_else : ((n : ℕ) → closing (suc n) (drop i rows) ≡ suc (closing (suc n) (drop (i + 1) rows))) → (p : ℕ) (st : List Open) → Pending rows i (suc p) st → Pending rows (i + 1) (suc p) st
  pend_else f p [] h = tt
  pend_else f p (o ∷ st) h = (omega (arith, h.0), omega (arith, h.1, f p), pend_else f (suc p) st h.2)

  pend_end : ((n : ℕ) → closing (suc n) (drop i rows) ≡ suc (closing n (drop (i + 1) rows))) → (p : ℕ) (st : List Open) → Pending rows i (suc p) st → Pending rows (i + 1) p st
  pend_end f p [] h = tt
  pend_end f p (o ∷ st) h = (omega (arith, h.0), omega (arith, h.1, f p), pend_end f (suc p) st h.2)

  -- a row that leads to itself gets its jump
  led_here : (jumps : List ℕ) (st : List Open) → i < length jumps → i ≡ leads_to rows i → LedBut rows jumps i st → LedBut rows (set jumps i i) (i + 1) st
  led_here jumps st lt e led =
      below_more (λ (k : ℕ). Held k st ⊎ (get_or (set jumps i i) k 0 ≡ leads_to rows k)) i
      (λ k h. let ne : k ≢ i = omega arith in elim (led k h) [ inl x ↦ inl x | inr y ↦ inr (get_or-set_other jumps i k i 0 ne ∙ y) ])
      (inr (get_or-set_same jumps i i 0 lt ∙ e))

  -- a row that opens a part is held
  led_open : (jumps : List ℕ) (o : Open) (st : List Open) → i ≡ branch o → LedBut rows jumps i st → LedBut rows (set jumps i i) (i + 1) (o ∷ st)
  led_open jumps o st e led =
      below_more (λ (k : ℕ). Held k (o ∷ st) ⊎ (get_or (set jumps i i) k 0 ≡ leads_to rows k)) i
      (λ k h. let ne : k ≢ i = omega arith in elim (led k h) [ inl x ↦ inl (inr x) | inr y ↦ inr (get_or-set_other jumps i k i 0 ne ∙ y) ])
      (inl (inl e))

  -- a part that ends here gets its jump
  led_settle : (jumps : List ℕ) (o : Open) (st : List Open) → branch o < length jumps → i ≡ leads_to rows (branch o) → LedBut rows jumps i (o ∷ st) → LedBut rows (set jumps (branch o) i) i st
  led_settle jumps o st lt e led k h =
      elim (led k h) [
        | inl x ↦ elim x [ inl y ↦ inr (there y) | inr z ↦ inl z ]
        | inr y ↦ elim (ℕ_discrete k (branch o)) [ yes z ↦ inr (there z) | no z ↦ inr (get_or-set_other jumps (branch o) k i 0 z ∙ y) ]
      ]
    where
      there : k ≡ branch o → get_or (set jumps (branch o) i) k 0 ≡ leads_to rows k
      there y =
          ap (λ (n : ℕ). get_or (set jumps (branch o) i) n 0) y
          ∙ (get_or-set_same jumps (branch o) i 0 lt
          ∙ (e ∙ ap (leads_to rows) (sym y)))

module _ (rows : List Row) (jumps : List ℕ) (i : ℕ) (here : i < length rows) (few : i < 256) where
  -- what holds after the row's step
  abbrev After : Result (List Open) RowFault → Option ℕ → Type 0
  After (Ok st) o = Marked rows (noted jumps i o) (i + 1) st
  After (Err f) o = Unit {0}

  noted_long : (o : Option ℕ) → length jumps ≡ 256 → length (noted jumps i o) ≡ 256
  noted_long None h = length-set jumps i i ∙ h
  noted_long (Some k) h = length-set (set jumps k i) i i ∙ (length-set jumps k i ∙ h)

  -- a scan at row i, where r stands
  seen : (r : Row) → get_or rows i Idle ≡ r → (n : ℕ) → closing n (drop i rows) ≡ closing n (r ∷ drop (i + 1) rows)
  seen r e n = at_drop_more (closing n) rows i Idle here ∙ ap (λ (x : Row). closing n (x ∷ drop (i + 1) rows)) e

  leads_by : (r : Row) → get_or rows i Idle ≡ r → partner r i (drop (i + 1) rows) ≡ leads_to rows i
  leads_by r e = ap (λ (x : Row). partner x i (drop (i + 1) rows)) (sym e)

  after_plain : (r : Row) → get_or rows i Idle ≡ r → i ≡ partner r i (drop (i + 1) rows) → ((n : ℕ) → closing n (r ∷ drop (i + 1) rows) ≡ suc (closing n (drop (i + 1) rows))) → (st : List Open) → Marked rows jumps i st → After (Ok st) None
  after_plain r e itself f st m =
      record {
        long = noted_long None m.long;
        pending = pend_plain rows i (λ n. seen r e n ∙ f n) 0 st m.pending;
        led = led_here rows i jumps st (omega (arith, m.long, few)) (itself ∙ leads_by r e) m.led;
      }

  by_room : (c : Bool) (st : List Open) (f : RowFault) → After (Ok st) None → After (cond c (Ok st) (Err f)) None
  by_room true st f a = a
  by_room false st f a = tt

  after_open : (r : Row) → get_or rows i Idle ≡ r → partner r i (drop (i + 1) rows) ≡ i + 1 + closing 0 (drop (i + 1) rows) → ((n : ℕ) → closing n (r ∷ drop (i + 1) rows) ≡ suc (closing (suc n) (drop (i + 1) rows))) → (o : Open) → i ≡ branch o → (st : List Open) → Marked rows jumps i st → After (opened o i st) None
  after_open r e on-ward f o o_is st m =
      by_room (ltb (length st) 16) (o ∷ st) (record { row = i; reason = TooDeep })
      (record {
        long = noted_long None m.long;
        pending = (
          omega (arith, o_is),
          ap (leads_to rows) (sym o_is) ∙ (sym (leads_by r e) ∙ on-ward),
          pend_open rows i (λ n. seen r e n ∙ f n) 0 st m.pending,
        );
        led = led_open rows i jumps o st o_is m.led;
      })

  after_else : get_or rows i Idle ≡ Else → (k : ℕ) (st : List Open) → Marked rows jumps i (InThen k ∷ st) → After (Ok (InElse k i ∷ st)) (Some k)
  after_else e k st m =
      let ends_here : i ≡ leads_to rows k = omega (arith, m.pending.1, seen Else e 0) in
      record {
        long = noted_long (Some k) m.long;
        pending = (
          omega arith,
          sym (leads_by Else e),
          pend_else rows i (λ n. seen Else e (suc n)) 0 st m.pending.2,
        );
        led = led_open rows i (set jumps k i) (InElse k i) st refl (led_settle rows i jumps (InThen k) st (omega (arith, m.pending.0, m.long, few)) ends_here m.led);
      }

  after_end : get_or rows i Idle ≡ End → (o : Open) (st : List Open) → Marked rows jumps i (o ∷ st) → After (Ok st) (Some (branch o))
  after_end e o st m =
      let ends_here : i ≡ leads_to rows (branch o) = omega (arith, m.pending.1, seen End e 0) in
      record {
        long = noted_long (Some (branch o)) m.long;
        pending = pend_end rows i (λ n. seen End e (suc n)) 0 st m.pending.2;
        led = led_here rows i (set jumps (branch o) i) st (omega (arith, length-set jumps (branch o) i, m.long, few)) (leads_by End e) (led_settle rows i jumps o st (omega (arith, m.pending.0, m.long, few)) ends_here m.led);
      }

  after : (r : Row) (st : List Open) → get_or rows i Idle ≡ r → Marked rows jumps i st → After (entered r i st) (ended r st)
  after Idle st e m = after_plain Idle e refl (λ n. refl) st m
  after (PutConstant target constant) st e m = after_plain (PutConstant target constant) e refl (λ n. refl) st m
  after (SlotWithConstant op target first constant) st e m = after_plain (SlotWithConstant op target first constant) e refl (λ n. refl) st m
  after (TwoSlots op target first second) st e m = after_plain (TwoSlots op target first second) e refl (λ n. refl) st m
  after (If g) st e m = after_open (If g) e refl (λ n. refl) (InThen i) refl st m
  after (While g) st e m = after_open (While g) e refl (λ n. refl) (InLoop i) refl st m
  after Else [] e m = tt
  after Else (InThen k ∷ st) e m = after_else e k st m
  after Else (InElse k j ∷ st) e m = tt
  after Else (InLoop k ∷ st) e m = tt
  after End [] e m = tt
  after End (o ∷ st) e m = after_end e o st m

-- The rows so far have their jumps, but for the branches that are open, whatever rows come next.
abbrev pub Noted : List Row → List ℕ → List Open → Type 0
Noted rows jumps st = (rest : List Row) → Marked (rows ++ rest) jumps (length rows) st

pub noted_none : (jumps : List ℕ) → length jumps ≡ 256 → Noted [] jumps []
noted_none jumps long rest = record { long = long; pending = tt; led = λ k h. absurd (omega (arith, h)) }

pub noted_more : (rows : List Row) (jumps : List ℕ) (st next : List Open) (r : Row) → length rows < 256 → entered r (length rows) st ≡ Ok next → Noted rows jumps st → Noted (rows ++ (r ∷ [])) (noted jumps (length rows) (ended r st)) next
noted_more rows jumps st next r few e h rest =
    let all : List Row = rows ++ (r ∷ rest) in
    let i : ℕ = length rows in
    let here : i < length all = omega (arith, length-append rows (r ∷ rest)) in
    let is : get_or all i Idle ≡ r = get_or_at rows r rest Idle i refl in
    let m : After all jumps i here few (Ok next) (ended r st) = subst (λ (s : Result (List Open) RowFault). After all jumps i here few s (ended r st)) e (after all jumps i here few r st is (h (r ∷ rest))) in
    let more : i + 1 ≡ length (rows ++ (r ∷ [])) = omega (arith, length-append rows (r ∷ [])) in
    subst (λ (n : ℕ). Marked ((rows ++ (r ∷ [])) ++ rest) (noted jumps i (ended r st)) n next) more
    (subst (λ (xs : List Row). Marked xs (noted jumps i (ended r st)) (i + 1) next) (sym (append_assoc rows (r ∷ []) rest)) m)

pub noted_all : (rows : List Row) (jumps : List ℕ) → Noted rows jumps [] → Leads rows jumps
noted_all rows jumps h =
    let m = subst (λ (xs : List Row). Marked xs jumps (length rows) []) (append-nil rows) (h []) in
    λ k lt. elim (m.led k lt) [ inl x ↦ absurd x | inr y ↦ y ]
