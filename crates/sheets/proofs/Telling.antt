-- What the answer of reading says of the bytes: which rows they write, and where the reading stopped. Assumes nothing.
use Rattle.std.proofs.Common.{◌≡◌, ℕ, zero, suc, ◌+◌, ◌*◌, ◌<◌, ◌≤◌, Bool, List, [], ◌∷◌, ◌++◌, length, take, drop, Ok, Err, Result, sym, refl, ap, ◌∙◌, append_assoc, add-zero, arith, length-drop}
use Rattle.std.proofs.ByRecursion.{All-take, All-drop}
use Rattle.std.proofs.lemmas.List.{length-take-le, take-append-drop}
use Rattle.std.specs.List.{flat_map, AllByRecursion}
use Rattle.rows.proofs.Acceptance.{rows_are_read}
use Rattle.rows.proofs.Refusals.{rows_are_refused}
use Rattle.rows.specs.Reading.{read_row}
use Rattle.rows.specs.Refusing.{FirstFault}
use Rattle.rows.specs.Writing.{bytes_of, Writes}
use Rattle.rows.specs.declared.row.Row.{Row}
use Rattle.rows.specs.declared.fault.RowFault.{RowFault}
use Rattle.sheets.specs.Meaning.{LawfulRows}
use Rattle.sheets.specs.Reading.{going_on, with_first, read_rows}
use Rattle.sheets.specs.Walk.{opener, and_then, at_end, entered, walk}
use Rattle.sheets.specs.declared.fault.SheetFault.{SheetFault}
use Rattle.sheets.specs.declared.fault.SheetFault.TheVariants as fault
use Rattle.sheets.specs.declared.walker.Open.{Open}
use Rattle.sheets.proofs.Beginnings.{entered_not}

abbrev pub Bytes : List ℕ → Type 0
Bytes bytes = AllByRecursion (λ byte. byte < 256) bytes

-- why the row at `at` is refused, with these blocks open
pub data Why (lists : ℕ → Bool) (at : ℕ) (st : List Open) (eight : List ℕ) (f : RowFault) : Type 0 where
  faulted : FirstFault lists eight f.reason → Why lists at st eight f
  blocked : (r : Row) → Writes lists eight r → entered r at st ≡ Err f → Why lists at st eight f

-- from row i on, with these blocks open, the first row that is refused
pub record Stopped (lists : ℕ → Bool) (i : ℕ) (bytes : List ℕ) (st : List Open) (f : RowFault) : Type 0 where
  pub before : List Row
  pub eight : List ℕ
  pub after : List ℕ
  pub next : List Open
  pub written : bytes ≡ flat_map bytes_of before ++ (eight ++ after)
  pub whole : length eight ≡ 8
  pub lawful : LawfulRows lists before
  pub walked : walk i before st ≡ Ok next
  pub at : ℕ
  pub at_is : at ≡ i + length before
  pub here : f.row ≡ at
  pub why : Why lists at next eight f

-- the rows from row i on
pub record Ended (lists : ℕ → Bool) (n i : ℕ) (bytes : List ℕ) (st : List Open) (rows : List Row) (next : List Open) : Type 0 where
  pub many : length rows ≡ n
  pub written : bytes ≡ flat_map bytes_of rows
  pub lawful : LawfulRows lists rows
  pub walked : walk i rows st ≡ Ok next

pub record EndedOpen (lists : ℕ → Bool) (n i : ℕ) (bytes : List ℕ) (st : List Open) (k : ℕ) : Type 0 where
  pub rows : List Row
  pub block : Open
  pub around : List Open
  pub ended : Ended lists n i bytes st rows (block ∷ around)
  pub here : opener block ≡ k

-- what the answer says of the bytes
abbrev pub Told : (ℕ → Bool) → ℕ → ℕ → List ℕ → List Open → Result (List Row) SheetFault → Type 0
Told lists n i bytes st (Ok rows) = Ended lists n i bytes st rows []
Told lists n i bytes st (Err fault.Length) = ⊥
Told lists n i bytes st (Err (fault.Row f)) = Stopped lists i bytes st f
Told lists n i bytes st (Err (fault.StillOpen k)) = EndedOpen lists n i bytes st k

module _ (lists : ℕ → Bool) where
  none_left : (bytes : List ℕ) (i : ℕ) (st : List Open) → length bytes ≡ 0 → Told lists 0 i bytes st (at_end [] st)
  none_left [] i [] e = record { many = refl; written = refl; lawful = tt; walked = refl }
  none_left [] i (o ∷ st) e =
      record { rows = []; block = o; around = st; ended = record { many = refl; written = refl; lawful = tt; walked = refl }; here = refl }
  none_left (b ∷ bytes) i st e = absurd (omega (arith, e))

  -- a first row before the rest
  module _ (r : Row) (n i : ℕ) (bytes : List ℕ) (st next : List Open) (w : Writes lists (take 8 bytes) r) (good : entered r i st ≡ Ok next) where
    first_is : bytes ≡ bytes_of r ++ drop 8 bytes
    first_is = sym (take-append-drop 8 bytes) ∙ ap (λ (xs : List ℕ). xs ++ drop 8 bytes) w.written

    first_lawful : Writes lists (bytes_of r) r
    first_lawful = record { written = refl; listed_slots = w.listed_slots; values = w.values }

    first_walks : (rows : List Row) → walk i (r ∷ rows) st ≡ walk (i + 1) rows next
    first_walks rows = ap (λ (s : Result (List Open) RowFault). and_then s (walk (i + 1) rows)) good

    then_ended : (rows : List Row) (last : List Open) → Ended lists n (i + 1) (drop 8 bytes) next rows last → Ended lists (suc n) i bytes st (r ∷ rows) last
    then_ended rows last t =
        record {
          many = ap suc t.many;
          written = first_is ∙ ap (λ (xs : List ℕ). bytes_of r ++ xs) t.written;
          lawful = (first_lawful, t.lawful);
          walked = first_walks rows ∙ t.walked;
        }

    then_stopped : (f : RowFault) → Stopped lists (i + 1) (drop 8 bytes) next f → Stopped lists i bytes st f
    then_stopped f t =
        record {
          before = r ∷ t.before;
          eight = t.eight;
          after = t.after;
          next = t.next;
          written = first_is
              ∙ (ap (λ (xs : List ℕ). bytes_of r ++ xs) t.written ∙ sym (append_assoc (bytes_of r) (flat_map bytes_of t.before) (t.eight ++ t.after)));
          whole = t.whole;
          lawful = (first_lawful, t.lawful);
          walked = first_walks t.before ∙ t.walked;
          at = t.at;
          at_is = omega (arith, t.at_is);
          here = t.here;
          why = t.why;
        }

    then_told : (read : Result (List Row) SheetFault) → Told lists n (i + 1) (drop 8 bytes) next read → Told lists (suc n) i bytes st (with_first r read)
    then_told (Ok rows) t = then_ended rows [] t
    then_told (Err fault.Length) t = t
    then_told (Err (fault.Row f)) t = then_stopped f t
    then_told (Err (fault.StillOpen k)) t =
        record { rows = r ∷ t.rows; block = t.block; around = t.around; ended = then_ended t.rows (t.block ∷ t.around) t.ended; here = t.here }

  stopped_here : (i : ℕ) (bytes : List ℕ) (st : List Open) (f : RowFault) → 8 ≤ length bytes → f.row ≡ i → Why lists i st (take 8 bytes) f → Stopped lists i bytes st f
  stopped_here i bytes st f long here why =
      record {
        before = [];
        eight = take 8 bytes;
        after = drop 8 bytes;
        next = st;
        written = sym (take-append-drop 8 bytes);
        whole = length-take-le 8 bytes long;
        lawful = tt;
        walked = refl;
        at = i;
        at_is = sym (add-zero i);
        here = here;
        why = why;
      }

  by_entry : (r : Row) (n i : ℕ) (bytes : List ℕ) (st : List Open) → 8 ≤ length bytes → Writes lists (take 8 bytes) r → ((next : List Open) → Told lists n (i + 1) (drop 8 bytes) next (read_rows lists n (i + 1) (drop 8 bytes) next)) → (s : Result (List Open) RowFault) → entered r i st ≡ s → Told lists (suc n) i bytes st (going_on s (λ next. with_first r (read_rows lists n (i + 1) (drop 8 bytes) next)))
  by_entry r n i bytes st long w told (Ok next) e = then_told r n i bytes st next w e (read_rows lists n (i + 1) (drop 8 bytes) next) (told next)
  by_entry r n i bytes st long w told (Err f) e = stopped_here i bytes st f long (entered_not r i st f e).0 (blocked r w e)

  by_row : (n i : ℕ) (bytes : List ℕ) (st : List Open) → 8 ≤ length bytes → Bytes bytes → ((next : List Open) → Told lists n (i + 1) (drop 8 bytes) next (read_rows lists n (i + 1) (drop 8 bytes) next)) → (s : Result Row RowFault) → read_row lists i (take 8 bytes) ≡ s → Told lists (suc n) i bytes st (going_on s (λ r. going_on (entered r i st) (λ next. with_first r (read_rows lists n (i + 1) (drop 8 bytes) next))))
  by_row n i bytes st long small told (Ok r) e =
      let w = (rows_are_read lists i (take 8 bytes) r (length-take-le 8 bytes long) (All-take (λ byte. byte < 256) 8 bytes small)).only_written e in
      by_entry r n i bytes st long w told (entered r i st) refl
  by_row n i bytes st long small told (Err f) e =
      let c = (rows_are_refused lists i (take 8 bytes)).given f e in
      stopped_here i bytes st f long c.0 (faulted c.1)

  pub told : (n i : ℕ) (bytes : List ℕ) (st : List Open) → length bytes ≡ 8 * n → Bytes bytes → Told lists n i bytes st (read_rows lists n i bytes st)
  told zero i bytes st long small = none_left bytes i st (omega (arith, long))
  told (suc n) i bytes st long small =
      by_row n i bytes st (omega (arith, long)) small
      (λ next. told n (i + 1) (drop 8 bytes) next (omega (arith, long, length-drop 8 bytes)) (All-drop (λ byte. byte < 256) 8 bytes small))
      (read_row lists i (take 8 bytes)) refl
