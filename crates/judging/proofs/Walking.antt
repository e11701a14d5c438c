-- The verdicts on rows, one after the other, with the control labels on a stack: on the rows that list a block they are those on the block.
-- Assumes nothing.
use Rattle.std.proofs.Common.{◌≡◌, ℕ, ◌+◌, ◌-◌, ◌<◌, ◌≤◌, Bool, List, [], ◌∷◌, ◌++◌, length, get_or, drop, Some, None, Option, sym, refl, ap, ◌∙◌, subst, append_assoc, append-nil, arith}
use Rattle.std.proofs.lemmas.List.{at_drop_more, at_drop_all, drop_more}
use Rattle.rows.specs.declared.fault.RowReason.{RowReason}
use Rattle.rows.specs.declared.row.Row.{Row}
use Rattle.rows.specs.declared.row.Row.TheVariants.{Idle, If, Else, While, End}
use Rattle.sheets.specs.Programs.{constant, with_constant, two_slots, Simple, skip, assign, Block, nil, simple, when, either, while, simple_row, listing, nesting}
use Rattle.sheets.specs.Walk.{Program}
use Rattle.judging.specs.Judging.{inside, verdict, verdicts, first_fault, judged}
use Rattle.judging.specs.Steps.{Room, deepened, followed}

-- ---- verdicts

abbrev current : List ℕ → ℕ
current [] = 0
current (γ ∷ outer) = γ

module _ (flows : ℕ → ℕ → Bool) (joins : ℕ → ℕ → ℕ) (Γ : ℕ → Option ℕ) where
  abbrev pub walked : ℕ → List ℕ → List Row → List (Option RowReason)
  walked p γs [] = []
  walked p γs (r ∷ rows) = verdict flows joins Γ p (current γs) r ∷ walked p (followed joins Γ r γs) rows

  follow_simple : (s : Simple) (γs : List ℕ) → followed joins Γ (simple_row s) γs ≡ γs
  follow_simple skip γs = refl
  follow_simple (assign i (constant k)) γs = refl
  follow_simple (assign i (with_constant op a k)) γs = refl
  follow_simple (assign i (two_slots op a b)) γs = refl

  -- rows that end in a branch, the row r that ends it, and the rows after it
  seam : (p : ℕ) (γs : List ℕ) (xs : List Row) (r : Row) (ys rest : List Row) (vs ws tail : List (Option RowReason)) →
      ((more : List Row) → walked p γs (xs ++ more) ≡ vs ++ walked p γs more) →
      walked p (followed joins Γ r γs) (ys ++ rest) ≡ ws ++ tail →
      walked p γs ((xs ++ (r ∷ ys)) ++ rest) ≡ (vs ++ (verdict flows joins Γ p (current γs) r ∷ ws)) ++ tail
  seam p γs xs r ys rest vs ws tail before after =
      ap (walked p γs) (append_assoc xs (r ∷ ys) rest)
      ∙ before (r ∷ (ys ++ rest))
      ∙ ap (λ (us : List (Option RowReason)). vs ++ (verdict flows joins Γ p (current γs) r ∷ us)) after
      ∙ sym (append_assoc vs (verdict flows joins Γ p (current γs) r ∷ ws) tail)

  walk_block : (p γ : ℕ) (γs : List ℕ) (b : Block) (rest : List Row) →
      walked p (γ ∷ γs) (listing b ++ rest) ≡ verdicts flows joins Γ p γ b ++ walked p (γ ∷ γs) rest
  walk_block p γ γs nil rest = refl
  walk_block p γ γs (simple s next) rest =
      ap (λ (cs : List ℕ). verdict flows joins Γ p γ (simple_row s) ∷ walked p cs (listing next ++ rest)) (follow_simple s (γ ∷ γs))
      ∙ ap (λ (vs : List (Option RowReason)). verdict flows joins Γ p γ (simple_row s) ∷ vs) (walk_block p γ γs next rest)
  walk_block p γ γs (when g a next) rest =
      let δ = inside joins Γ γ g in
      ap (λ (vs : List (Option RowReason)). verdict flows joins Γ p γ (If g) ∷ vs)
      (seam p (δ ∷ γ ∷ γs) (listing a) End (listing next) rest (verdicts flows joins Γ p δ a) (verdicts flows joins Γ p γ next) (walked p (γ ∷ γs) rest)
      (walk_block p δ (γ ∷ γs) a) (walk_block p γ γs next rest))
  walk_block p γ γs (either g a b next) rest =
      let δ = inside joins Γ γ g in
      ap (λ (vs : List (Option RowReason)). verdict flows joins Γ p γ (If g) ∷ vs)
      (seam p (δ ∷ γ ∷ γs) (listing a) Else (listing b ++ (End ∷ listing next)) rest (verdicts flows joins Γ p δ a) (verdicts flows joins Γ p δ b ++ (None ∷ verdicts flows joins Γ p γ next)) (walked p (γ ∷ γs) rest)
      (walk_block p δ (γ ∷ γs) a)
      (seam p (δ ∷ γ ∷ γs) (listing b) End (listing next) rest (verdicts flows joins Γ p δ b) (verdicts flows joins Γ p γ next) (walked p (γ ∷ γs) rest)
      (walk_block p δ (γ ∷ γs) b) (walk_block p γ γs next rest)))
  walk_block p γ γs (while g a next) rest =
      let δ = inside joins Γ γ g in
      ap (λ (vs : List (Option RowReason)). verdict flows joins Γ p γ (While g) ∷ vs)
      (seam p (δ ∷ γ ∷ γs) (listing a) End (listing next) rest (verdicts flows joins Γ p δ a) (verdicts flows joins Γ p γ next) (walked p (γ ∷ γs) rest)
      (walk_block p δ (γ ∷ γs) a) (walk_block p γ γs next rest))

  -- the rows of a whole block, judged outside all others
  walk_listing : (p : ℕ) (b : Block) → first_fault 0 (walked p (p ∷ []) (listing b)) ≡ judged flows joins Γ p b
  walk_listing p b =
      let e : walked p (p ∷ []) (listing b ++ []) ≡ verdicts flows joins Γ p p b ++ [] = walk_block p p [] b [] in
      ap (first_fault 0) (simp append-nil at e)

-- ---- nesting

-- the rows never close more blocks than are open, and never open a seventeenth
abbrev pub Nests : ℕ → List Row → Type 0
Nests d [] = Unit {0}
Nests d (r ∷ rows) = Room d r × Nests (deepened d r) rows

nests_simple : (s : Simple) (d : ℕ) (rows : List Row) → Nests d rows → Nests d (simple_row s ∷ rows)
nests_simple skip d rows h = (tt, h)
nests_simple (assign i (constant k)) d rows h = (tt, h)
nests_simple (assign i (with_constant op a k)) d rows h = (tt, h)
nests_simple (assign i (two_slots op a b)) d rows h = (tt, h)

-- the end of a block
nests_end : (d : ℕ) (rows : List Row) → Nests d rows → Nests (d + 1) (End ∷ rows)
nests_end d rows h = let e : d ≡ d + 1 - 1 = omega arith in (omega arith, subst (λ (n : ℕ). Nests n rows) e h)

nests_seam : (d : ℕ) (xs : List Row) (r : Row) (ys rest : List Row) →
    ((more : List Row) → Nests d more → Nests d (xs ++ more)) → Nests d (r ∷ (ys ++ rest)) → Nests d ((xs ++ (r ∷ ys)) ++ rest)
nests_seam d xs r ys rest before after = subst (Nests d) (sym (append_assoc xs (r ∷ ys) rest)) (before (r ∷ (ys ++ rest)) after)

nests_block : (b : Block) (d : ℕ) → nesting b + d ≤ 16 → (rest : List Row) → Nests d rest → Nests d (listing b ++ rest)
nests_block nil d few rest h = h
nests_block (simple s next) d few rest h = nests_simple s d (listing next ++ rest) (nests_block next d few rest h)
nests_block (when g a next) d few rest h = (
  omega arith,
  nests_seam (d + 1) (listing a) End (listing next) rest (nests_block a (d + 1) (omega arith))
      (nests_end d (listing next ++ rest) (nests_block next d (omega arith) rest h)),
)
nests_block (either g a b next) d few rest h = (
  omega arith,
  nests_seam (d + 1) (listing a) Else (listing b ++ (End ∷ listing next)) rest (nests_block a (d + 1) (omega arith)) (
    tt,
    nests_seam (d + 1) (listing b) End (listing next) rest (nests_block b (d + 1) (omega arith))
        (nests_end d (listing next ++ rest) (nests_block next d (omega arith) rest h)),
  ),
)
nests_block (while g a next) d few rest h = (
  omega arith,
  nests_seam (d + 1) (listing a) End (listing next) rest (nests_block a (d + 1) (omega arith))
      (nests_end d (listing next ++ rest) (nests_block next d (omega arith) rest h)),
)

nests_listing : (b : Block) → nesting b ≤ 16 → Nests 0 (listing b)
nests_listing b few = simp append-nil at (nests_block b 0 (omega arith) [] tt)

-- ---- the walk so far

module _ (flows : ℕ → ℕ → Bool) (joins : ℕ → ℕ → ℕ) (Γ : ℕ → Option ℕ) (p : ℕ) (rows : List Row) where
  -- Before row i, with these control labels and d blocks open: no row so far is at fault.
  pub record Going (i : ℕ) (γs : List ℕ) (d : ℕ) : Type 0 where
    pub same : first_fault i (walked flows joins Γ p γs (drop i rows)) ≡ first_fault 0 (walked flows joins Γ p (p ∷ []) rows)
    pub nests : Nests d (drop i rows)

  pub going_none : (γs : List ℕ) (d : ℕ) → Program rows → γs ≡ p ∷ [] → d ≡ 0 → Going 0 γs d
  going_none γs d program outside none = record {
    same = ap (λ (cs : List ℕ). first_fault 0 (walked flows joins Γ p cs rows)) outside;
    nests = subst (λ (n : ℕ). Nests n rows) (sym none) (subst (Nests 0) program.lists (nests_listing program.block program.shallow));
  }

  module _ {i : ℕ} {γs : List ℕ} {d : ℕ} (going : Going i γs d) where
    answer : (b : Block) → listing b ≡ rows → first_fault i (walked flows joins Γ p γs (drop i rows)) ≡ judged flows joins Γ p b
    answer b e =
        going.same ∙ ap (λ (rs : List Row). first_fault 0 (walked flows joins Γ p (p ∷ []) rs)) (sym e) ∙ walk_listing flows joins Γ p b

    -- the verdicts after row i
    abbrev after : List (Option RowReason)
    after = walked flows joins Γ p (followed joins Γ (get_or rows i Idle) γs) (drop (i + 1) rows)

    at_row : i < length rows →
        first_fault i (walked flows joins Γ p γs (drop i rows)) ≡ first_fault i (verdict flows joins Γ p (current γs) (get_or rows i Idle) ∷ after)
    at_row h = at_drop_more (λ (rs : List Row). first_fault i (walked flows joins Γ p γs rs)) rows i Idle h

    pub going_room : i < length rows → Room d (get_or rows i Idle)
    going_room h = (subst (Nests d) (drop_more rows i Idle h) going.nests).0

    pub going_more : (γs' : List ℕ) (d' : ℕ) → i < length rows → verdict flows joins Γ p (current γs) (get_or rows i Idle) ≡ None →
        γs' ≡ followed joins Γ (get_or rows i Idle) γs → d' ≡ deepened d (get_or rows i Idle) → Going (i + 1) γs' d'
    going_more γs' d' h passes controls depth = record {
      same =
          ap (λ (cs : List ℕ). first_fault (i + 1) (walked flows joins Γ p cs (drop (i + 1) rows))) controls
          ∙ sym (at_row h ∙ ap (λ (v : Option RowReason). first_fault i (v ∷ after)) passes)
          ∙ going.same;
      nests = subst (λ (n : ℕ). Nests n (drop (i + 1) rows)) (sym depth) (subst (Nests d) (drop_more rows i Idle h) going.nests).1;
    }

    pub going_off : i < length rows → (why : RowReason) → verdict flows joins Γ p (current γs) (get_or rows i Idle) ≡ Some why →
        (b : Block) → listing b ≡ rows → Some (record { row = i; reason = why }) ≡ judged flows joins Γ p b
    going_off h why refused b e =
        sym (at_row h ∙ ap (λ (v : Option RowReason). first_fault i (v ∷ after)) refused) ∙ answer b e

    pub going_all : length rows ≤ i → (b : Block) → listing b ≡ rows → None ≡ judged flows joins Γ p b
    going_all h b e = sym (at_drop_all (λ (rs : List Row). first_fault i (walked flows joins Γ p γs rs)) rows i h) ∙ answer b e
