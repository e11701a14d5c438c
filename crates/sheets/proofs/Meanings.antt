-- Bytes are read as rows exactly if they write them, and refused exactly for their first fault. Assumes nothing.
use Rattle.std.proofs.Common.{◌≡◌, ℕ, suc, ◌+◌, ◌-◌, ◌*◌, ◌/◌, ◌%◌, ◌≤◌, Bool, true, false, cond, ◌&&◌, eqb, leb, List, [], ◌∷◌, ◌++◌, length, drop, Ok, Err, Result, sym, refl, ap, ◌∙◌, subst, ap₂, inl, inr, append_assoc, add-zero, zero-add, arith, length-append, eq-eqb, eqb-true, le-leb, leb-true}
use Rattle.std.proofs.lemmas.Bool.{and_parts}
use Rattle.std.proofs.lemmas.List.{append-nil, take_at, drop_at}
use Rattle.std.specs.List.{flat_map}
use Rattle.rows.proofs.Acceptance.{rows_are_read}
use Rattle.rows.proofs.Refusals.{rows_are_refused}
use Rattle.rows.specs.Faults.{reason_number, reason_byte}
use Rattle.rows.specs.Reading.{read_row}
use Rattle.rows.specs.Refusing.{Against, kind_above, operation_above, slot_not_listed, unused_not_zero, NoLater, FirstFault}
use Rattle.rows.specs.Writing.{bytes_of}
use Rattle.rows.specs.declared.row.Row.{Row}
use Rattle.rows.specs.declared.row.Row.TheVariants.{Idle, PutConstant, SlotWithConstant, TwoSlots, If, Else, While, End}
use Rattle.rows.specs.declared.fault.RowFault.{RowFault}
use Rattle.rows.specs.declared.fault.RowReason.{RowReason}
use Rattle.rows.specs.declared.fault.RowReason.TheVariants.{NotListed, NotZero}
use Rattle.sheets.specs.Meaning.{LawfulRows, LawfulLength, Written, Refusal, faulty, misplaced, RowRefused, LatestOpen, LeftOpen, Refused, Means, Begins, Misplaced, SheetsAreRead, SheetsAreRefused}
use Rattle.sheets.specs.Reading.{lawful_length, row_count, going_on, with_first, read_rows, read_sheet, Made}
use Rattle.sheets.specs.Walk.{opener, and_then, at_end, entered, walk, accepts}
use Rattle.sheets.specs.declared.fault.SheetFault.{SheetFault}
use Rattle.sheets.specs.declared.fault.SheetFault.TheVariants as fault
use Rattle.sheets.specs.declared.walker.Open.{Open}
use Rattle.sheets.proofs.Assembling.{onto, onto_ok, onto_err}
use Rattle.sheets.proofs.Beginnings.{both_done, begins, begun, begins_not, entered_not, one_reason, open_latest, latest_opened}
use Rattle.sheets.proofs.Telling.{Why, faulted, blocked, Told, told, Bytes}
use Rattle.sheets.proofs.Walks.{walk_push, listed, exact, accepted_walk}

-- the number of rows
lawful_both : (n : ℕ) → lawful_length n ≡ true → (n ≤ 2048) × (n % 8 ≡ 0)
lawful_both n e =
    let p = and_parts (leb n 2048) (eqb (n % 8) 0) e in
    (leb-true n 2048 p.0, eqb-true (n % 8) 0 p.1)

both_lawful : (n : ℕ) → n ≤ 2048 → n % 8 ≡ 0 → lawful_length n ≡ true
both_lawful n few whole = ap₂ (λ (a b : Bool). a && b) (le-leb n 2048 few) (eq-eqb (n % 8) 0 whole)

pub counted : (n : ℕ) → n ≤ 2048 → n % 8 ≡ 0 → row_count n ≡ Ok (n / 8)
counted n few whole = ap (λ (b : Bool). cond b (Ok (n / 8)) (Err fault.Length)) (both_lawful n few whole)

-- written rows
bytes_long : (r : Row) → length (bytes_of r) ≡ 8
bytes_long Idle = refl
bytes_long (PutConstant target constant) = refl
bytes_long (SlotWithConstant op target first constant) = refl
bytes_long (TwoSlots op target first second) = refl
bytes_long (If guard) = refl
bytes_long Else = refl
bytes_long (While guard) = refl
bytes_long End = refl

rows_long : (rows : List Row) → length (flat_map bytes_of rows) ≡ 8 * length rows
rows_long [] = refl
rows_long (r ∷ rows) = omega (arith, length-append (bytes_of r) (flat_map bytes_of rows), bytes_long r, rows_long rows)

front_bytes : (xs ys : List ℕ) → Bytes (xs ++ ys) → Bytes xs
front_bytes [] ys h = tt
front_bytes (x ∷ xs) ys h = (h.0, front_bytes xs ys h.1)

rest_bytes : (xs ys : List ℕ) → Bytes (xs ++ ys) → Bytes ys
rest_bytes [] ys h = h
rest_bytes (x ∷ xs) ys h = rest_bytes xs ys h.1

-- the first fault of eight bytes is one
same_place : (a b : RowReason) → NoLater a b → NoLater b a → (reason_number a ≡ reason_number b) × (reason_byte a ≡ reason_byte b)
same_place a b (inl h) (inl k) = absurd (omega (arith, h, k))
same_place a b (inl h) (inr k) = absurd (omega (arith, h, k.0))
same_place a b (inr h) (inl k) = absurd (omega (arith, h.0, k))
same_place a b (inr h) (inr k) = (h.0, omega (arith, h.1, k.1))

same_reason : {lists : ℕ → Bool} {eight : List ℕ} {a b : RowReason} → Against lists eight a → Against lists eight b → reason_number a ≡ reason_number b → reason_byte a ≡ reason_byte b → a ≡ b
same_reason (kind_above h) (kind_above k) n e = refl
same_reason (kind_above h) (operation_above k l) n e = absurd (omega (arith, n))
same_reason (kind_above h) (slot_not_listed j k l m) n e = absurd (omega (arith, n))
same_reason (kind_above h) (unused_not_zero j k l m) n e = absurd (omega (arith, n))
same_reason (operation_above h i) (kind_above k) n e = absurd (omega (arith, n))
same_reason (operation_above h i) (operation_above k l) n e = refl
same_reason (operation_above h i) (slot_not_listed j k l m) n e = absurd (omega (arith, n))
same_reason (operation_above h i) (unused_not_zero j k l m) n e = absurd (omega (arith, n))
same_reason (slot_not_listed i x y z) (kind_above k) n e = absurd (omega (arith, n))
same_reason (slot_not_listed i x y z) (operation_above k l) n e = absurd (omega (arith, n))
same_reason (slot_not_listed i x y z) (slot_not_listed j k l m) n e = ap NotListed e
same_reason (slot_not_listed i x y z) (unused_not_zero j k l m) n e = absurd (omega (arith, n))
same_reason (unused_not_zero i x y z) (kind_above k) n e = absurd (omega (arith, n))
same_reason (unused_not_zero i x y z) (operation_above k l) n e = absurd (omega (arith, n))
same_reason (unused_not_zero i x y z) (slot_not_listed j k l m) n e = absurd (omega (arith, n))
same_reason (unused_not_zero i x y z) (unused_not_zero j k l m) n e = ap NotZero e

fault_read : (lists : ℕ → Bool) (i : ℕ) (eight : List ℕ) (reason : RowReason) → FirstFault lists eight reason → (a : RowFault) × (read_row lists i eight ≡ Err a) × (a.row ≡ i) × (a.reason ≡ reason)
fault_read lists i eight reason c =
    let r = rows_are_refused lists i eight in
    let a = r.faulty reason c.stands in
    let g = r.given a.0 a.1 in
    let n = same_place a.0.reason reason (g.1.earliest reason c.stands) (c.earliest a.0.reason g.1.stands) in
    (a.0, a.1, g.0, same_reason g.1.stands c.stands n.0 n.1)

-- a row's answer, and then the entry of the row and what is read after it
abbrev on_row : (ℕ → Bool) → ℕ → ℕ → List ℕ → List Open → Result Row RowFault → Result (List Row) SheetFault
on_row lists n i rest st s = going_on s (λ r. going_on (entered r i st) (λ next. with_first r (read_rows lists n (i + 1) rest next)))

module _ (lists : ℕ → Bool) where
  -- rows that are written and walked are read, and then what comes after them
  read_written : (rows : List Row) (left i : ℕ) (rest : List ℕ) (st next : List Open) → LawfulRows lists rows → Bytes (flat_map bytes_of rows) → walk i rows st ≡ Ok next → read_rows lists (length rows + left) i (flat_map bytes_of rows ++ rest) st ≡ onto rows (read_rows lists left (i + length rows) rest next)
  read_written [] left i rest st next lawful small e =
      let same : st ≡ next = cc in
      ap₂ (λ (n j : ℕ). read_rows lists n j rest st) (zero-add left) (sym (add-zero i)) ∙ ap (read_rows lists left (i + 0) rest) same
  read_written (r ∷ rows) left i rest st next lawful small e =
      let more : List ℕ = flat_map bytes_of rows in
      let n : ℕ = length rows + left in
      let b = both_done (entered r i st) (walk (i + 1) rows) next e in
      let one : suc (length rows) + left ≡ suc n = omega arith in
      let here : i + 1 + length rows ≡ i + suc (length rows) = omega arith in
      let read : read_row lists i (bytes_of r) ≡ Ok r = (rows_are_read lists i (bytes_of r) r (bytes_long r) (front_bytes (bytes_of r) more small)).all_written lawful.0 in
      ap₂ (λ (m : ℕ) (bs : List ℕ). read_rows lists m i bs st) one (append_assoc (bytes_of r) more rest)
      ∙ (ap₂ (λ (eight bs : List ℕ). on_row lists n i bs st (read_row lists i eight)) (take_at (bytes_of r) (more ++ rest) 8 (bytes_long r)) (drop_at (bytes_of r) (more ++ rest) 8 (bytes_long r))
      ∙ (ap (on_row lists n i (more ++ rest) st) read
      ∙ (ap (λ (s : Result (List Open) RowFault). going_on s (λ after. with_first r (read_rows lists n (i + 1) (more ++ rest) after))) b.first
      ∙ (ap (with_first r) (read_written rows left (i + 1) rest b.value next lawful.1 (rest_bytes (bytes_of r) more small) b.second)
      ∙ ap (λ (j : ℕ). with_first r (onto rows (read_rows lists left j rest next))) here))))

module _ (lists : ℕ → Bool) (bytes : List ℕ) where
  by_count : (s : Result ℕ SheetFault) → row_count (length bytes) ≡ s → read_sheet lists bytes ≡ and_then s (λ n. read_rows lists n 0 bytes [])
  by_count s e = ap (λ (z : Result ℕ SheetFault). and_then z (λ n. read_rows lists n 0 bytes [])) e

  sheet_is : LawfulLength bytes → read_sheet lists bytes ≡ read_rows lists (length bytes / 8) 0 bytes []
  sheet_is l = by_count (Ok (length bytes / 8)) (counted (length bytes) l.0 l.1)

  not_lawful : (LawfulLength bytes → ⊥) → read_sheet lists bytes ≡ Err fault.Length
  not_lawful never = by_test (lawful_length (length bytes)) refl
    where
      by_test : (b : Bool) → lawful_length (length bytes) ≡ b → read_sheet lists bytes ≡ Err fault.Length
      by_test true e = absurd (never (lawful_both (length bytes) e))
      by_test false e = by_count (Err fault.Length) (ap (λ (b : Bool). cond b (Ok (length bytes / 8)) (Err fault.Length)) e)

  refusal : (before : List Row) (next : List Open) (at : ℕ) (eight : List ℕ) (f : RowFault) → walk 0 before [] ≡ Ok next → at ≡ length before → Why lists at next eight f → Refusal lists before eight f.reason
  refusal before next at eight f walked at_is (faulted c) = faulty c
  refusal before next at eight f walked at_is (blocked r w e) =
      misplaced r w (begins_not before r next f walked (ap (λ (n : ℕ). entered r n next) (sym at_is) ∙ e)) (entered_not r at next f e).1

  meant : LawfulLength bytes → (read : Result (List Row) SheetFault) → Told lists (length bytes / 8) 0 bytes [] read → Means lists bytes (λ rows. rows) read
  meant l (Ok rows) t =
      record { written = t.written; few = omega (arith, l.0, t.many); lawful = t.lawful; program = listed rows (ap accepts t.walked) }
  meant l (Err fault.Length) t = absurd t
  meant l (Err (fault.Row f)) t =
      let at_is : t.at ≡ length t.before = omega (arith, t.at_is) in (
        l,
        record {
          before = t.before;
          eight = t.eight;
          after = t.after;
          written = t.written;
          whole = t.whole;
          lawful = t.lawful;
          begins = begins t.before t.next t.walked;
          here = t.here ∙ at_is;
          why = refusal t.before t.next t.at t.eight f t.walked at_is t.why;
        },
      )
  meant l (Err (fault.StillOpen k)) t =
      let e = t.ended in (
        l,
        record {
          rows = t.rows;
          written = e.written;
          lawful = e.lawful;
          begins = begins t.rows (t.block ∷ t.around) e.walked;
          open_at = subst (λ (n : ℕ). LatestOpen t.rows n) t.here (open_latest t.rows t.block t.around e.walked);
        },
      )

  meaning : Bytes bytes → Means lists bytes (λ rows. rows) (read_sheet lists bytes)
  meaning small = by_test (lawful_length (length bytes)) refl
    where
      by_test : (b : Bool) → lawful_length (length bytes) ≡ b → Means lists bytes (λ rows. rows) (read_sheet lists bytes)
      by_test true e =
          let l = lawful_both (length bytes) e in
          let long : length bytes ≡ 8 * (length bytes / 8) = omega (arith, l.1) in
          subst (Means lists bytes (λ rows. rows)) (sym (sheet_is l)) (meant l (read_rows lists (length bytes / 8) 0 bytes []) (told lists (length bytes / 8) 0 bytes [] long small))
      by_test false e =
          let none : read_sheet lists bytes ≡ Err fault.Length = by_count (Err fault.Length) (ap (λ (b : Bool). cond b (Ok (length bytes / 8)) (Err fault.Length)) e) in
          subst (Means lists bytes (λ rows. rows)) (sym none) (λ l. let z : true ≡ false = sym (both_lawful (length bytes) l.0 l.1) ∙ e in let y : ◌≡◌ {A = ℕ} 0 1 = cc in omega arith)

  -- written rows, and then the rest
  module _ (small : Bytes bytes) (lawful : LawfulLength bytes) (rows : List Row) (rest : List ℕ) (left : ℕ) (st : List Open) (written : bytes ≡ flat_map bytes_of rows ++ rest) (rows-lawful : LawfulRows lists rows) (walked : walk 0 rows [] ≡ Ok st) where
    read_front : length bytes / 8 ≡ length rows + left → read_sheet lists bytes ≡ onto rows (read_rows lists left (length rows) rest st)
    read_front count =
        sheet_is lawful
        ∙ (ap₂ (λ (n : ℕ) (bs : List ℕ). read_rows lists n 0 bs []) count written
        ∙ (read_written lists rows left 0 rest [] st rows-lawful (front_bytes (flat_map bytes_of rows) rest (subst Bytes written small)) walked
        ∙ ap (λ (n : ℕ). onto rows (read_rows lists left n rest st)) (zero-add (length rows))))

  all_rows : (rows : List Row) → bytes ≡ flat_map bytes_of rows → length bytes / 8 ≡ length rows + 0
  all_rows rows written = omega (arith, rows_long rows, ap length written)

  written_read : (rows : List Row) → Bytes bytes → Written lists bytes rows → read_sheet lists bytes ≡ Ok rows
  written_read rows small w =
      let long : length bytes ≡ 8 * length rows = ap length w.written ∙ rows_long rows in
      let lawful : LawfulLength bytes = (omega (arith, w.few), omega arith) in
      read_front small lawful rows [] 0 [] (w.written ∙ sym (append-nil (flat_map bytes_of rows))) w.lawful (accepted_walk (walk 0 rows []) ((exact rows).1 w.program)) (all_rows rows w.written)
      ∙ (onto_ok rows [] ∙ ap Ok (append-nil rows))

  -- the row after written rows is refused
  row_stops : (before : List Row) (st : List Open) (eight after : List ℕ) (m : ℕ) (f : RowFault) → walk 0 before [] ≡ Ok st → length eight ≡ 8 → Bytes eight → f.row ≡ length before → Refusal lists before eight f.reason → read_rows lists (suc m) (length before) (eight ++ after) st ≡ Err (fault.Row f)
  row_stops before st eight after m f walked whole small here why =
      ap (λ (bs : List ℕ). on_row lists m (length before) (drop 8 (eight ++ after)) st (read_row lists (length before) bs)) (take_at eight after 8 whole)
      ∙ stop why
    where
      same_fault : (a : RowFault) → a.row ≡ length before → a.reason ≡ f.reason → ◌≡◌ {A = Result (List Row) SheetFault} (Err (fault.Row a)) (Err (fault.Row f))
      same_fault a p q = ap₂ (λ (n : ℕ) (why : RowReason). Err (fault.Row (record { row = n; reason = why }))) (p ∙ sym here) q

      by_entry : (r : Row) → (Begins (before ++ (r ∷ [])) → ⊥) → Misplaced r f.reason → (s : Result (List Open) RowFault) → entered r (length before) st ≡ s → going_on s (λ next. with_first r (read_rows lists m (length before + 1) (drop 8 (eight ++ after)) next)) ≡ Err (fault.Row f)
      by_entry r never mis (Ok next) e = absurd (never (begins (before ++ (r ∷ [])) next (walk_push before r st walked ∙ e)))
      by_entry r never mis (Err a) e = let p = entered_not r (length before) st a e in same_fault a p.0 (one_reason p.1 mis)

      stop : Refusal lists before eight f.reason → on_row lists m (length before) (drop 8 (eight ++ after)) st (read_row lists (length before) eight) ≡ Err (fault.Row f)
      stop (faulty c) =
          let a = fault_read lists (length before) eight f.reason c in
          ap (on_row lists m (length before) (drop 8 (eight ++ after)) st) a.1 ∙ same_fault a.0 a.2 a.3
      stop (misplaced r w never mis) =
          ap (on_row lists m (length before) (drop 8 (eight ++ after)) st) ((rows_are_read lists (length before) eight r whole small).all_written w) ∙ by_entry r never mis (entered r (length before) st) refl

  refused_row : (f : RowFault) → Bytes bytes → LawfulLength bytes → RowRefused lists bytes f → read_sheet lists bytes ≡ Err (fault.Row f)
  refused_row f small lawful t =
      let w = begun t.before t.begins in
      let m : ℕ = length bytes / 8 - length t.before - 1 in
      let parts : length bytes ≡ 8 * length t.before + (8 + length t.after) =
      ap length t.written ∙ omega (arith, length-append (flat_map bytes_of t.before) (t.eight ++ t.after), length-append t.eight t.after, rows_long t.before, t.whole) in
      let rest_small = rest_bytes (flat_map bytes_of t.before) (t.eight ++ t.after) (subst Bytes t.written small) in
      read_front small lawful t.before (t.eight ++ t.after) (suc m) w.0 t.written t.lawful w.1 (omega (arith, lawful.1))
      ∙ (ap (onto t.before) (row_stops t.before w.0 t.eight t.after m f w.1 t.whole (front_bytes t.eight t.after rest_small) t.here t.why)
      ∙ onto_err t.before (fault.Row f))

  refused_open : (k : ℕ) → Bytes bytes → LawfulLength bytes → LeftOpen lists bytes k → read_sheet lists bytes ≡ Err (fault.StillOpen k)
  refused_open k small lawful t =
      let w = begun t.rows t.begins in
      let o = latest_opened t.rows k w.0 t.open_at w.1 in
      read_front small lawful t.rows [] 0 w.0 (t.written ∙ sym (append-nil (flat_map bytes_of t.rows))) t.lawful w.1 (all_rows t.rows t.written)
      ∙ (ap (λ (s : List Open). onto t.rows (at_end [] s)) o.is
      ∙ (onto_err t.rows (fault.StillOpen (opener o.block)) ∙ ap (λ (n : ℕ). Err (fault.StillOpen n)) o.here))

  refused_read : (f : SheetFault) → Bytes bytes → Refused lists bytes f → read_sheet lists bytes ≡ Err f
  refused_read fault.Length small never = not_lawful never
  refused_read (fault.Row f) small t = refused_row f small t.0 t.1
  refused_read (fault.StillOpen k) small t = refused_open k small t.0 t.1

pub sheets_are_read : SheetsAreRead
sheets_are_read lists bytes rows small =
    record {
      only_written = λ e. subst (Means lists bytes (λ xs. xs)) e (meaning lists bytes small);
      all_written = written_read lists bytes rows small;
    }

pub sheets_are_refused : SheetsAreRefused
sheets_are_refused lists bytes f small =
    record {
      only_first = λ e. subst (Means lists bytes (λ xs. xs)) e (meaning lists bytes small);
      all_first = refused_read lists bytes f small;
    }

-- a sheet that is made as reading says
pub made_means : {A : Type 0} (lists : ℕ → Bool) (bytes : List ℕ) (to_rows : A → List Row) → Bytes bytes → (r : Result A SheetFault) → Made (read_sheet lists bytes) to_rows r → Means lists bytes to_rows r
made_means lists bytes to_rows small (Ok sheet) e = (sheets_are_read lists bytes (to_rows sheet) small).only_written e
made_means lists bytes to_rows small (Err f) e = (sheets_are_refused lists bytes f small).only_first e
