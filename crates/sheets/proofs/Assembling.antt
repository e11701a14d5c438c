-- A sheet row by row: what holds of the rows read so far. Assumes nothing.
use Rattle.std.proofs.Common.{◌≡◌, ℕ, zero, suc, ◌+◌, ◌<◌, ◌≤◌, Bool, true, ◌&&◌, List, [], ◌∷◌, ◌++◌, length, get_or, take, drop, Ok, Err, Option, Result, sym, refl, ap, ◌∙◌, subst, ap₂, arith, length-append}
use Rattle.std.specs.Simd.{first_chunks}
use Rattle.std.proofs.lemmas.Bool.{and_parts}
use Rattle.std.proofs.lemmas.List.{append-nil, at_drop_more, at_drop_all}
use Rattle.rows.specs.Reading.{read_row}
use Rattle.rows.specs.Writing.{slots_of}
use Rattle.rows.specs.declared.row.Row.{Row}
use Rattle.rows.specs.declared.fault.RowFault.{RowFault}
use Rattle.sheets.specs.Eights.{read_eights}
use Rattle.sheets.specs.Jumps.{Leads, noted}
use Rattle.sheets.specs.Reading.{row_count, going_on, with_first, read_rows, read_sheet, in_range, all_within}
use Rattle.sheets.specs.Walk.{and_then, at_end, entered, ended, walk, accepts}
use Rattle.sheets.specs.declared.fault.SheetFault.{SheetFault}
use Rattle.sheets.specs.declared.fault.SheetFault.TheVariants as fault
use Rattle.sheets.specs.declared.walker.Open.{Open}
use Rattle.sheets.proofs.Linking.{Noted, noted_none, noted_more, noted_all}
use Rattle.sheets.proofs.Walks.{walk_push}

-- rows in front of what is read after them
abbrev pub onto : List Row → Result (List Row) SheetFault → Result (List Row) SheetFault
onto [] read = read
onto (r ∷ rows) read = with_first r (onto rows read)

onto_push : (rows : List Row) (r : Row) (read : Result (List Row) SheetFault) → onto (rows ++ (r ∷ [])) read ≡ onto rows (with_first r read)
onto_push [] r read = refl
onto_push (x ∷ rows) r read = ap (with_first x) (onto_push rows r read)

pub onto_ok : (rows rest : List Row) → onto rows (Ok rest) ≡ Ok (rows ++ rest)
onto_ok [] rest = refl
onto_ok (r ∷ rows) rest = ap (with_first r) (onto_ok rows rest)

pub onto_err : (rows : List Row) (f : SheetFault) → onto rows (Err f) ≡ Err f
onto_err [] f = refl
onto_err (r ∷ rows) f = ap (with_first r) (onto_err rows f)

all_within_push : (rows : List Row) (r : Row) → all_within rows ≡ true → in_range (slots_of r) ≡ true → all_within (rows ++ (r ∷ [])) ≡ true
all_within_push [] r h w = ap (λ (b : Bool). b && true) w
all_within_push (x ∷ rows) r h w =
    let p = and_parts (in_range (slots_of x)) (all_within rows) h in
    ap₂ (λ (a b : Bool). a && b) p.0 (all_within_push rows r p.1 w)

-- rows whose bytes stand one after the other are read as rows whose bytes are given apart
module _ (lists : ℕ → Bool) (n i : ℕ) (bytes : List ℕ) (st : List Open) (later : (next : List Open) → read_rows lists n (i + 1) (drop 8 bytes) next ≡ read_eights lists (i + 1) (first_chunks 8 n (drop 8 bytes)) next) where
  same_entry : (r : Row) (s : Result (List Open) RowFault) → going_on s (λ next. with_first r (read_rows lists n (i + 1) (drop 8 bytes) next)) ≡ going_on s (λ next. with_first r (read_eights lists (i + 1) (first_chunks 8 n (drop 8 bytes)) next))
  same_entry r (Ok next) = ap (with_first r) (later next)
  same_entry r (Err f) = refl

  same_row : (s : Result Row RowFault) → going_on s (λ r. going_on (entered r i st) (λ next. with_first r (read_rows lists n (i + 1) (drop 8 bytes) next))) ≡ going_on s (λ r. going_on (entered r i st) (λ next. with_first r (read_eights lists (i + 1) (first_chunks 8 n (drop 8 bytes)) next)))
  same_row (Ok r) = same_entry r (entered r i st)
  same_row (Err f) = refl

pub eights_read : (lists : ℕ → Bool) (n i : ℕ) (bytes : List ℕ) (st : List Open) → read_rows lists n i bytes st ≡ read_eights lists i (first_chunks 8 n bytes) st
eights_read lists zero i bytes st = refl
eights_read lists (suc n) i bytes st = same_row lists n i bytes st (eights_read lists n (i + 1) (drop 8 bytes)) (read_row lists i (take 8 bytes))

pub sheet_read : (lists : ℕ → Bool) (bytes : List ℕ) (eights : List (List ℕ)) → row_count (length bytes) ≡ Ok (length eights) → eights ≡ first_chunks 8 (length eights) bytes → read_eights lists 0 eights [] ≡ read_sheet lists bytes
sheet_read lists bytes eights counted parts =
    ap (λ (es : List (List ℕ)). read_eights lists 0 es []) parts
    ∙ (sym (eights_read lists (length eights) 0 bytes [])
    ∙ ap (λ (s : Result ℕ SheetFault). and_then s (λ n. read_rows lists n 0 bytes [])) (sym counted))

module _ (lists : ℕ → Bool) (eights : List (List ℕ)) where
  -- what is read from row i on
  abbrev pub from_row : ℕ → List Open → Result (List Row) SheetFault
  from_row i st = read_eights lists i (drop i eights) st

  -- what holds once i rows are read, these, and these blocks are open
  pub record Going (rows : List Row) (jumps : List ℕ) (i : ℕ) (st : List Open) : Type 0 where
    pub many : length rows ≡ i
    pub same : read_eights lists 0 eights [] ≡ onto rows (from_row i st)
    pub walked : walk 0 rows [] ≡ Ok st
    pub led : Noted rows jumps st
    pub bounded : all_within rows ≡ true

  -- what holds of the rows of a sheet that is read
  pub record Whole (rows : List Row) (jumps : List ℕ) : Type 0 where
    pub same : read_eights lists 0 eights [] ≡ Ok rows
    pub accepted : accepts (walk 0 rows []) ≡ true
    pub led : Leads rows jumps
    pub bounded : all_within rows ≡ true

  pub going_none : (jumps : List ℕ) → length jumps ≡ 256 → Going [] jumps 0 []
  going_none jumps long = record { many = refl; same = refl; walked = refl; led = noted_none jumps long; bounded = refl }

  -- i rows were read, with their bytes
  module _ {rows : List Row} {jumps : List ℕ} {i : ℕ} {st : List Open} (g : Going rows jumps i st) where
    -- the next row's bytes are read so
    read_on : (s : Result Row RowFault) → i < length eights → s ≡ read_row lists i (get_or eights i []) → read_eights lists 0 eights [] ≡ onto rows (going_on s (λ r. going_on (entered r i st) (λ next. with_first r (from_row (i + 1) next))))
    read_on s lt e =
        g.same ∙ ap (onto rows) (at_drop_more (λ (es : List (List ℕ)). read_eights lists i es st) eights i [] lt ∙ ap (λ (z : Result Row RowFault). going_on z (λ r. going_on (entered r i st) (λ next. with_first r (from_row (i + 1) next)))) (sym e))

    pub going_row : (f : RowFault) → i < length eights → Err f ≡ read_row lists i (get_or eights i []) → read_eights lists 0 eights [] ≡ Err (fault.Row f)
    going_row f lt e = read_on (Err f) lt e ∙ onto_err rows (fault.Row f)

    -- and the row makes this of the open blocks
    walk_on : (r : Row) (s : Result (List Open) RowFault) → i < length eights → Ok r ≡ read_row lists i (get_or eights i []) → entered r i st ≡ s → read_eights lists 0 eights [] ≡ onto rows (going_on s (λ next. with_first r (from_row (i + 1) next)))
    walk_on r s lt e h = read_on (Ok r) lt e ∙ ap (λ (z : Result (List Open) RowFault). onto rows (going_on z (λ next. with_first r (from_row (i + 1) next)))) h

    pub going_block : (r : Row) (f : RowFault) → i < length eights → Ok r ≡ read_row lists i (get_or eights i []) → entered r i st ≡ Err f → read_eights lists 0 eights [] ≡ Err (fault.Row f)
    going_block r f lt e h = walk_on r (Err f) lt e h ∙ onto_err rows (fault.Row f)

    pub going_more : (r : Row) (next : List Open) (o : Option ℕ) (after : List ℕ) → i < length eights → length eights ≤ 256 → Ok r ≡ read_row lists i (get_or eights i []) → in_range (slots_of r) ≡ true → (entered r i st ≡ Ok next) × (o ≡ ended r st) → after ≡ noted jumps i o → Going (rows ++ (r ∷ [])) after (i + 1) next
    going_more r next o after lt few e inside h noting =
        record {
          many = omega (arith, g.many, length-append rows (r ∷ []));
          same = walk_on r (Ok next) lt e h.0 ∙ sym (onto_push rows r (from_row (i + 1) next));
          walked = walk_push rows r st g.walked ∙ (ap (λ (n : ℕ). entered r n st) g.many ∙ h.0);
          led = subst (λ (js : List ℕ). Noted (rows ++ (r ∷ [])) js next) (ap (noted jumps i) (sym h.1) ∙ sym noting)
              (subst (λ (n : ℕ). entered r n st ≡ Ok next → Noted (rows ++ (r ∷ [])) (noted jumps n (ended r st)) next) g.many
              (λ good. noted_more rows jumps st next r (omega (arith, g.many, lt, few)) good g.led) h.0);
          bounded = all_within_push rows r g.bounded inside;
        }

    -- after the last row
    at_last : length eights ≤ i → read_eights lists 0 eights [] ≡ onto rows (at_end [] st)
    at_last e = g.same ∙ ap (onto rows) (at_drop_all (λ (es : List (List ℕ)). read_eights lists i es st) eights i e)

    pub going_open : {A : Type 0} (x : A) (f : SheetFault) → length eights ≤ i → Err f ≡ at_end x st → read_eights lists 0 eights [] ≡ Err f
    going_open x f e h = at_last e ∙ (ap (onto rows) (same_end st (sym h)) ∙ onto_err rows f)
      where
        same_end : (s : List Open) → at_end x s ≡ Err f → at_end {A = List Row} [] s ≡ Err f
        same_end [] b = cc
        same_end (o ∷ s) b = cc

    -- no block is open
    pub going_all : {A : Type 0} (x y : A) → length eights ≤ i → Ok y ≡ at_end x st → Whole rows jumps
    going_all x y e h =
        let none : st ≡ [] = nothing_open st (sym h) in
        record {
          same = at_last e ∙ (ap (λ (s : List Open). onto rows (at_end [] s)) none ∙ (onto_ok rows [] ∙ ap Ok (append-nil rows)));
          accepted = ap accepts (g.walked ∙ ap Ok none);
          led = noted_all rows jumps (subst (λ (s : List Open). Noted rows jumps s) none g.led);
          bounded = g.bounded;
        }
      where
        nothing_open : (s : List Open) → at_end x s ≡ Ok y → s ≡ []
        nothing_open [] h = refl
        nothing_open (o ∷ s) h = cc
