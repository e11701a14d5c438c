-- `block_of` is the inverse of `listing`. Assumes nothing.
use Rattle.std.proofs.Common.{◌≡◌, ℕ, List, [], ◌∷◌, ◌++◌, Some, None, Option, sym, refl, ap, ◌∙◌, append_assoc, append-nil, arith}
use Rattle.rows.specs.declared.row.Row.{Row}
use Rattle.rows.specs.declared.row.Row.TheVariants.{Idle, PutConstant, SlotWithConstant, TwoSlots, If, Else, While, End}
use Rattle.sheets.specs.Programs.{constant, with_constant, two_slots, Simple, skip, assign, Block, nil, simple, when, either, while, simple_row, listing, ◌⨾◌, ListingsAreUnique}
use Rattle.sheets.specs.Parsing.{Pending, after_end, after_else, State, with_row, in_front, state_of, whole_of, whole, block_of, Parsing}

then_nil : (b : Block) → b ⨾ nil ≡ b
then_nil nil = refl
then_nil (simple s rest) = ap (simple s) (then_nil rest)
then_nil (when g a rest) = ap (when g a) (then_nil rest)
then_nil (either g a b rest) = ap (either g a b) (then_nil rest)
then_nil (while g a rest) = ap (while g a) (then_nil rest)

simple_in_front : (s : Simple) (b : Block) (st : List Pending) → with_row (simple_row s) b st ≡ Some (simple s b, st)
simple_in_front skip b st = refl
simple_in_front (assign i (constant k)) b st = refl
simple_in_front (assign i (with_constant op first k)) b st = refl
simple_in_front (assign i (two_slots op first second)) b st = refl

-- ---- what lists a block is read as it

-- a branch that ends where its rows do
branch_read : (a : Block) (tail : List Row) (st : List Pending) → state_of (listing a ++ tail) ≡ Some (a ⨾ nil, st) → state_of (listing a ++ tail) ≡ Some (a, st)
branch_read a tail st e = e ∙ ap (λ (x : Block). Some (x, st)) (then_nil a)

listing_read : (b : Block) (rows : List Row) (c : Block) (st : List Pending) → state_of rows ≡ Some (c, st) → state_of (listing b ++ rows) ≡ Some (b ⨾ c, st)
listing_read nil rows c st e = e
listing_read (simple s rest) rows c st e = ap (in_front (simple_row s)) (listing_read rest rows c st e) ∙ simple_in_front s (rest ⨾ c) st
listing_read (when g a rest) rows c st e =
    let tail = End ∷ (listing rest ++ rows) in
    let ended = ap (in_front End) (listing_read rest rows c st e) in
    ap (λ (x : List Row). in_front (If g) (state_of x)) (append_assoc (listing a) (End ∷ listing rest) rows)
    ∙ ap (in_front (If g)) (branch_read a tail _ (listing_read a tail nil _ ended))
listing_read (either g a b rest) rows c st e =
    let tail = End ∷ (listing rest ++ rows) in
    let ended = ap (in_front End) (listing_read rest rows c st e) in
    let turned = ap (in_front Else) (branch_read b tail _ (listing_read b tail nil _ ended)) in
    let front = Else ∷ (listing b ++ tail) in
    ap (λ (x : List Row). in_front (If g) (state_of x))
    (append_assoc (listing a) (Else ∷ (listing b ++ (End ∷ listing rest))) rows
    ∙ ap (λ (x : List Row). listing a ++ (Else ∷ x)) (append_assoc (listing b) (End ∷ listing rest) rows))
    ∙ ap (in_front (If g)) (branch_read a front _ (listing_read a front nil _ turned))
listing_read (while g a rest) rows c st e =
    let tail = End ∷ (listing rest ++ rows) in
    let ended = ap (in_front End) (listing_read rest rows c st e) in
    ap (λ (x : List Row). in_front (While g) (state_of x)) (append_assoc (listing a) (End ∷ listing rest) rows)
    ∙ ap (in_front (While g)) (branch_read a tail _ (listing_read a tail nil _ ended))

pub block_of_listing : (b : Block) → block_of (listing b) ≡ Some b
block_of_listing b =
    ap whole (ap state_of (sym (append-nil (listing b))) ∙ branch_read b [] [] (listing_read b [] nil [] refl))

-- ---- what is read lists the block

-- the rows of what is read so far
abbrev rows_of : Block → List Pending → List Row
rows_of b [] = listing b
rows_of b (after_end rest ∷ st) = listing b ++ (End ∷ rows_of rest st)
rows_of b (after_else second rest ∷ st) = listing b ++ (Else ∷ (listing second ++ (End ∷ rows_of rest st)))

-- a block with other rows after it, which are read as `rest` and what is pending
rows_append : (front : List Row) (whole rest : Block) (st : List Pending) → listing whole ≡ front ++ listing rest → rows_of whole st ≡ front ++ rows_of rest st
rows_append front whole rest [] e = e
rows_append front whole rest (after_end c ∷ st) e =
    ap (λ (x : List Row). x ++ (End ∷ rows_of c st)) e ∙ append_assoc front (listing rest) (End ∷ rows_of c st)
rows_append front whole rest (after_else b c ∷ st) e =
    ap (λ (x : List Row). x ++ (Else ∷ (listing b ++ (End ∷ rows_of c st)))) e
    ∙ append_assoc front (listing rest) (Else ∷ (listing b ++ (End ∷ rows_of c st)))

-- the state after a row more
abbrev Adds : Row → Block → List Pending → Option State → Type 0
Adds r b st None = Unit {0}
Adds r b st (Some s) = rows_of s.0 s.1 ≡ r ∷ rows_of b st

row_adds : (r : Row) (b : Block) (st : List Pending) → Adds r b st (with_row r b st)
row_adds Idle b st = rows_append (Idle ∷ []) (simple skip b) b st refl
row_adds (PutConstant i k) b st = rows_append (PutConstant i k ∷ []) (simple (assign i (constant k)) b) b st refl
row_adds (SlotWithConstant op i first k) b st = rows_append (SlotWithConstant op i first k ∷ []) (simple (assign i (with_constant op first k)) b) b st refl
row_adds (TwoSlots op i first second) b st = rows_append (TwoSlots op i first second ∷ []) (simple (assign i (two_slots op first second)) b) b st refl
row_adds (If g) b [] = tt
row_adds (If g) b (after_end rest ∷ st) =
    rows_append (If g ∷ (listing b ++ (End ∷ []))) (when g b rest) rest st (ap (λ (x : List Row). If g ∷ x) (sym (append_assoc (listing b) (End ∷ []) (listing rest))))
    ∙ ap (λ (x : List Row). If g ∷ x) (append_assoc (listing b) (End ∷ []) (rows_of rest st))
row_adds (If g) b (after_else second rest ∷ st) =
    let branch = Else ∷ (listing second ++ (End ∷ [])) in
    let apart : (tail : List Row) → (listing b ++ branch) ++ tail ≡ listing b ++ (Else ∷ (listing second ++ (End ∷ tail))) =
    λ tail. append_assoc (listing b) branch tail ∙ ap (λ (x : List Row). listing b ++ (Else ∷ x)) (append_assoc (listing second) (End ∷ []) tail) in
    rows_append (If g ∷ (listing b ++ branch)) (either g b second rest) rest st (ap (λ (x : List Row). If g ∷ x) (sym (apart (listing rest))))
    ∙ ap (λ (x : List Row). If g ∷ x) (apart (rows_of rest st))
row_adds Else b [] = tt
row_adds Else b (after_end rest ∷ st) = refl
row_adds Else b (after_else second rest ∷ st) = tt
row_adds (While g) b [] = tt
row_adds (While g) b (after_end rest ∷ st) =
    rows_append (While g ∷ (listing b ++ (End ∷ []))) (while g b rest) rest st (ap (λ (x : List Row). While g ∷ x) (sym (append_assoc (listing b) (End ∷ []) (listing rest))))
    ∙ ap (λ (x : List Row). While g ∷ x) (append_assoc (listing b) (End ∷ []) (rows_of rest st))
row_adds (While g) b (after_else second rest ∷ st) = tt
row_adds End b st = refl

-- the rows of a state are those that it was read from
abbrev Reads : List Row → Option State → Type 0
Reads rows None = Unit {0}
Reads rows (Some s) = rows_of s.0 s.1 ≡ rows

reads_more : (r : Row) (rows : List Row) (o : Option State) → Reads rows o → Reads (r ∷ rows) (in_front r o)
reads_more r rows None e = tt
reads_more r rows (Some s) e = go (with_row r s.0 s.1) (row_adds r s.0 s.1)
  where
    go : (o : Option State) → Adds r s.0 s.1 o → Reads (r ∷ rows) o
    go None x = tt
    go (Some u) x = x ∙ ap (λ (x : List Row). r ∷ x) e

state_reads : (rows : List Row) → Reads rows (state_of rows)
state_reads [] = refl
state_reads (r ∷ rows) = reads_more r rows (state_of rows) (state_reads rows)

whole_reads : (rows : List Row) (b : Block) (o : Option State) → Reads rows o → whole o ≡ Some b → listing b ≡ rows
whole_reads rows b None r e = absurd (let z : ◌≡◌ {A = ℕ} 0 1 = cc in omega arith)
whole_reads rows b (Some s) r e = go s.1 r e
  where
    go : (st : List Pending) → rows_of s.0 st ≡ rows → whole_of s.0 st ≡ Some b → listing b ≡ rows
    go [] x y = let same : s.0 ≡ b = cc in ap listing (sym same) ∙ x
    go (p ∷ st) x y = absurd (let z : ◌≡◌ {A = ℕ} 0 1 = cc in omega arith)

pub parses : Parsing
parses rows b = (whole_reads rows b (state_of rows) (state_reads rows), λ e. ap block_of (sym e) ∙ block_of_listing b)

pub listings_are_unique : ListingsAreUnique
listings_are_unique a b e = let p : Some a ≡ Some b = sym (block_of_listing a) ∙ ap block_of e ∙ block_of_listing b in cc
