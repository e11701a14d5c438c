-- The walk accepts the listings of blocks with at most 16 blocks open at once, and no other rows. Assumes nothing.
use Rattle.std.proofs.Common.{◌≡◌, ℕ, suc, ◌+◌, ◌<◌, ◌≤◌, max, Bool, true, false, cond, ltb, List, [], ◌∷◌, ◌++◌, length, Ok, Err, Result, sym, refl, ap, ◌∙◌, subst, append_assoc, add-zero, zero-add, arith, length-append, ltb-true, lt-ltb}
use Rattle.std.proofs.lemmas.List.{append-nil}
use Rattle.sheets.specs.Programs.{Block, nil, simple, when, either, while, Simple, skip, assign, constant, with_constant, two_slots, simple_row, listing, nesting, ◌⨾◌}
use Rattle.sheets.specs.Walk.{refused, opened, entered, and_then, walk, accepts, Program, Exact}
use Rattle.sheets.specs.declared.walker.Open.{Open}
use Rattle.sheets.specs.declared.walker.Open.TheVariants.{InThen, InElse, InLoop}
use Rattle.rows.specs.declared.row.Row.{Row}
use Rattle.rows.specs.declared.row.Row.TheVariants.{Idle, PutConstant, SlotWithConstant, TwoSlots, If, Else, While, End}
use Rattle.rows.specs.declared.fault.RowFault.{RowFault}
use Rattle.rows.specs.declared.fault.RowReason.TheVariants.{TooDeep}

pub opens : (o : Open) (i : ℕ) (st : List Open) → length st < 16 → opened o i st ≡ Ok (o ∷ st)
opens o i st room = ap (λ (c : Bool). cond c (Ok (o ∷ st)) (refused i TooDeep)) (lt-ltb (length st) 16 room)

-- the rows after a first part are walked with the blocks that the first part leaves open
pub walk_append : (i : ℕ) (xs ys : List Row) (st : List Open) → walk i (xs ++ ys) st ≡ and_then (walk i xs st) (walk (i + length xs) ys)
walk_append i [] ys st = ap (λ (n : ℕ). walk n ys st) (sym (add-zero i))
walk_append i (r ∷ xs) ys st = step (λ next. walk_append (i + 1) xs ys next) (entered r i st)
  where
    step : ((next : List Open) → walk (i + 1) (xs ++ ys) next ≡ and_then (walk (i + 1) xs next) (walk (i + 1 + length xs) ys)) → (s : Result (List Open) RowFault) → and_then s (walk (i + 1) (xs ++ ys)) ≡ and_then (and_then s (walk (i + 1) xs)) (walk (i + suc (length xs)) ys)
    step rest (Err fault) = refl
    step rest (Ok next) =
        let same : i + 1 + length xs ≡ i + suc (length xs) = omega arith in
        rest next ∙ ap (λ (n : ℕ). and_then (walk (i + 1) xs next) (walk n ys)) same

-- one more row
pub walk_push : (rows : List Row) (r : Row) (st : List Open) → walk 0 rows [] ≡ Ok st → walk 0 (rows ++ (r ∷ [])) [] ≡ entered r (length rows) st
walk_push rows r st e =
    walk_append 0 rows (r ∷ []) []
    ∙ (ap (λ (s : Result (List Open) RowFault). and_then s (walk (0 + length rows) (r ∷ []))) e
    ∙ (ap (λ (n : ℕ). walk n (r ∷ []) st) (zero-add (length rows)) ∙ last (entered r (length rows) st)))
  where
    last : (s : Result (List Open) RowFault) → and_then s (walk (length rows + 1) []) ≡ s
    last (Ok next) = refl
    last (Err fault) = refl

pub entered_simple : (s : Simple) (i : ℕ) (st : List Open) → entered (simple_row s) i st ≡ Ok st
entered_simple skip i st = refl
entered_simple (assign target (constant k)) i st = refl
entered_simple (assign target (with_constant op first k)) i st = refl
entered_simple (assign target (two_slots op first second)) i st = refl

-- a branch is walked with its block open, and then what follows it
walk_branch : (a : Block) (rows : List Row) (i : ℕ) (o : Open) (st : List Open) → walk i (listing a) (o ∷ st) ≡ Ok (o ∷ st) → walk i (listing a ++ rows) (o ∷ st) ≡ walk (i + length (listing a)) rows (o ∷ st)
walk_branch a rows i o st e =
    walk_append i (listing a) rows (o ∷ st) ∙ ap (λ (s : Result (List Open) RowFault). and_then s (walk (i + length (listing a)) rows)) e

-- a block leaves open what was open before it
pub walk_listing : (b : Block) (i : ℕ) (st : List Open) → nesting b + length st ≤ 16 → walk i (listing b) st ≡ Ok st
walk_listing nil i st h = refl
walk_listing (simple s rest) i st h =
    ap (λ (z : Result (List Open) RowFault). and_then z (walk (i + 1) (listing rest))) (entered_simple s i st) ∙ walk_listing rest (i + 1) st h
walk_listing (when g a rest) i st h =
    ap (λ (z : Result (List Open) RowFault). and_then z (walk (i + 1) (listing a ++ (End ∷ listing rest)))) (opens (InThen i) i st (omega (arith, h)))
    ∙ (walk_branch a (End ∷ listing rest) (i + 1) (InThen i) st (walk_listing a (i + 1) (InThen i ∷ st) (omega (arith, h)))
    ∙ walk_listing rest (i + 1 + length (listing a) + 1) st (omega (arith, h)))
walk_listing (either g a b rest) i st h =
    let mid : ℕ = i + 1 + length (listing a) in
    ap (λ (z : Result (List Open) RowFault). and_then z (walk (i + 1) (listing a ++ (Else ∷ (listing b ++ (End ∷ listing rest)))))) (opens (InThen i) i st (omega (arith, h)))
    ∙ (walk_branch a (Else ∷ (listing b ++ (End ∷ listing rest))) (i + 1) (InThen i) st (walk_listing a (i + 1) (InThen i ∷ st) (omega (arith, h)))
    ∙ (walk_branch b (End ∷ listing rest) (mid + 1) (InElse i mid) st (walk_listing b (mid + 1) (InElse i mid ∷ st) (omega (arith, h)))
    ∙ walk_listing rest (mid + 1 + length (listing b) + 1) st (omega (arith, h))))
walk_listing (while g a rest) i st h =
    ap (λ (z : Result (List Open) RowFault). and_then z (walk (i + 1) (listing a ++ (End ∷ listing rest)))) (opens (InLoop i) i st (omega (arith, h)))
    ∙ (walk_branch a (End ∷ listing rest) (i + 1) (InLoop i) st (walk_listing a (i + 1) (InLoop i ∷ st) (omega (arith, h)))
    ∙ walk_listing rest (i + 1 + length (listing a) + 1) st (omega (arith, h)))

-- one block after another
pub listing_then : (b c : Block) → listing (b ⨾ c) ≡ listing b ++ listing c
listing_then nil c = refl
listing_then (simple s rest) c = ap (λ (xs : List Row). simple_row s ∷ xs) (listing_then rest c)
listing_then (when g a rest) c =
    ap (λ (xs : List Row). If g ∷ (listing a ++ (End ∷ xs))) (listing_then rest c)
    ∙ ap (λ (xs : List Row). If g ∷ xs) (sym (append_assoc (listing a) (End ∷ listing rest) (listing c)))
listing_then (either g a b rest) c =
    ap (λ (xs : List Row). If g ∷ (listing a ++ (Else ∷ (listing b ++ (End ∷ xs))))) (listing_then rest c)
    ∙ (ap (λ (xs : List Row). If g ∷ (listing a ++ (Else ∷ xs))) (sym (append_assoc (listing b) (End ∷ listing rest) (listing c)))
    ∙ ap (λ (xs : List Row). If g ∷ xs) (sym (append_assoc (listing a) (Else ∷ (listing b ++ (End ∷ listing rest))) (listing c))))
listing_then (while g a rest) c =
    ap (λ (xs : List Row). While g ∷ (listing a ++ (End ∷ xs))) (listing_then rest c)
    ∙ ap (λ (xs : List Row). While g ∷ xs) (sym (append_assoc (listing a) (End ∷ listing rest) (listing c)))

nesting_then : (b c : Block) → nesting (b ⨾ c) ≡ max (nesting b) (nesting c)
nesting_then nil c = omega arith
nesting_then (simple s rest) c = nesting_then rest c
nesting_then (when g a rest) c = omega (arith, nesting_then rest c)
nesting_then (either g a b rest) c = omega (arith, nesting_then rest c)
nesting_then (while g a rest) c = omega (arith, nesting_then rest c)

-- Rows that end inside a block that row k opened: `below` holds of the rows before it, and it is open to this depth.
pub record Within (opening : ℕ → Row) (rows : List Row) (k depth : ℕ) (below : List Row → Type 0) : Type 0 where
  pub front : List Row
  pub guard : ℕ
  pub body : Block
  pub shallow : nesting body + depth ≤ 16
  pub here : length front ≡ k
  pub is : front ++ (opening guard ∷ listing body) ≡ rows
  pub beneath : below front

-- rows that end inside the second branch of an if
pub record Beyond (rows : List Row) (k depth : ℕ) (below : List Row → Type 0) : Type 0 where
  pub front : List Row
  pub guard : ℕ
  pub first : Block
  pub second : Block
  pub shallow_first : nesting first + depth ≤ 16
  pub shallow_second : nesting second + depth ≤ 16
  pub here : length front ≡ k
  pub is : front ++ (If guard ∷ (listing first ++ (Else ∷ listing second))) ≡ rows
  pub beneath : below front

-- what rows are after which these blocks are open
abbrev pub Standing : List Row → List Open → Type 0
Standing rows [] = Program rows
Standing rows (InThen k ∷ st) = Within If rows k (suc (length st)) (λ front. Standing front st)
Standing rows (InElse k j ∷ st) = Beyond rows k (suc (length st)) (λ front. Standing front st)
Standing rows (InLoop k ∷ st) = Within While rows k (suc (length st)) (λ front. Standing front st)

few : (rows : List Row) (st : List Open) → Standing rows st → length st ≤ 16
few rows [] h = omega arith
few rows (InThen k ∷ st) h = omega (arith, h.shallow)
few rows (InElse k j ∷ st) h = omega (arith, h.shallow_second)
few rows (InLoop k ∷ st) h = omega (arith, h.shallow)

-- a block after what stands
within_more : (opening : ℕ → Row) (rows : List Row) (k depth : ℕ) (below : List Row → Type 0) (c : Block) → nesting c + depth ≤ 16 → Within opening rows k depth below → Within opening (rows ++ listing c) k depth below
within_more opening rows k depth below c h s =
    record {
      front = s.front;
      guard = s.guard;
      body = s.body ⨾ c;
      shallow = omega (arith, h, s.shallow, nesting_then s.body c);
      here = s.here;
      is = ap (λ (xs : List Row). s.front ++ (opening s.guard ∷ xs)) (listing_then s.body c)
          ∙ (sym (append_assoc s.front (opening s.guard ∷ listing s.body) (listing c)) ∙ ap (λ (xs : List Row). xs ++ listing c) s.is);
      beneath = s.beneath;
    }

more : (c : Block) (rows : List Row) (st : List Open) → nesting c + length st ≤ 16 → Standing rows st → Standing (rows ++ listing c) st
more c rows [] h s =
    record {
      block = s.block ⨾ c;
      shallow = omega (arith, h, s.shallow, nesting_then s.block c);
      lists = listing_then s.block c ∙ ap (λ (xs : List Row). xs ++ listing c) s.lists;
    }
more c rows (InThen k ∷ st) h s = within_more If rows k (suc (length st)) (λ front. Standing front st) c h s
more c rows (InElse k j ∷ st) h s =
    record {
      front = s.front;
      guard = s.guard;
      first = s.first;
      second = s.second ⨾ c;
      shallow_first = s.shallow_first;
      shallow_second = omega (arith, h, s.shallow_second, nesting_then s.second c);
      here = s.here;
      is = ap (λ (xs : List Row). s.front ++ (If s.guard ∷ (listing s.first ++ (Else ∷ xs)))) (listing_then s.second c)
          ∙ (ap (λ (xs : List Row). s.front ++ (If s.guard ∷ xs)) (sym (append_assoc (listing s.first) (Else ∷ listing s.second) (listing c)))
          ∙ (sym (append_assoc s.front (If s.guard ∷ (listing s.first ++ (Else ∷ listing s.second))) (listing c))
          ∙ ap (λ (xs : List Row). xs ++ listing c) s.is));
      beneath = s.beneath;
    }
more c rows (InLoop k ∷ st) h s = within_more While rows k (suc (length st)) (λ front. Standing front st) c h s

-- what holds of rows that a walk left so
abbrev pub Stands : List Row → Result (List Open) RowFault → Type 0
Stands rows (Ok st) = Standing rows st
Stands rows (Err fault) = Unit {0}

module _ (rows : List Row) (i : ℕ) (i_is : length rows ≡ i) where
  after_simple : (s : Simple) (st : List Open) → Standing rows st → Standing (rows ++ (simple_row s ∷ [])) st
  after_simple s st h = more (simple s nil) rows st (omega (arith, few rows st h)) h

  by_room : (opening : ℕ → Row) (g : ℕ) (st : List Open) (o : Open) → (length st < 16 → Stands (rows ++ (opening g ∷ [])) (Ok (o ∷ st))) → (c : Bool) → ltb (length st) 16 ≡ c → Stands (rows ++ (opening g ∷ [])) (cond c (Ok (o ∷ st)) (refused i TooDeep))
  by_room opening g st o h true e = h (ltb-true (length st) 16 e)
  by_room opening g st o h false e = tt

  begun : (opening : ℕ → Row) (g : ℕ) (st : List Open) → length st < 16 → Standing rows st → Within opening (rows ++ (opening g ∷ [])) i (suc (length st)) (λ front. Standing front st)
  begun opening g st room h =
      record { front = rows; guard = g; body = nil; shallow = omega (arith, room); here = i_is; is = refl; beneath = h }

  -- a block that ends is a block after what stood before it
  ended_within : (opening : ℕ → Row) (whole : ℕ → Block → Block) (st : List Open) (k : ℕ) → ((g : ℕ) (a : Block) → listing (whole g a) ≡ opening g ∷ (listing a ++ (End ∷ []))) → ((g : ℕ) (a : Block) → nesting (whole g a) ≤ suc (nesting a)) → Within opening rows k (suc (length st)) (λ front. Standing front st) → Standing (rows ++ (End ∷ [])) st
  ended_within opening whole st k lists nests s =
      let c = whole s.guard s.body in
      let same : s.front ++ listing c ≡ rows ++ (End ∷ []) =
      ap (λ (xs : List Row). s.front ++ xs) (lists s.guard s.body)
      ∙ (sym (append_assoc s.front (opening s.guard ∷ listing s.body) (End ∷ [])) ∙ ap (λ (xs : List Row). xs ++ (End ∷ [])) s.is) in
      subst (λ (xs : List Row). Standing xs st) same (more c s.front st (omega (arith, s.shallow, nests s.guard s.body)) s.beneath)

  ended_beyond : (st : List Open) (k : ℕ) → Beyond rows k (suc (length st)) (λ front. Standing front st) → Standing (rows ++ (End ∷ [])) st
  ended_beyond st k s =
      let c = either s.guard s.first s.second nil in
      let same : s.front ++ listing c ≡ rows ++ (End ∷ []) =
      ap (λ (xs : List Row). s.front ++ (If s.guard ∷ xs)) (sym (append_assoc (listing s.first) (Else ∷ listing s.second) (End ∷ [])))
      ∙ (sym (append_assoc s.front (If s.guard ∷ (listing s.first ++ (Else ∷ listing s.second))) (End ∷ []))
      ∙ ap (λ (xs : List Row). xs ++ (End ∷ [])) s.is) in
      subst (λ (xs : List Row). Standing xs st) same (more c s.front st (omega (arith, s.shallow_first, s.shallow_second)) s.beneath)

  turned_over : (st : List Open) (k : ℕ) → length st < 16 → Within If rows k (suc (length st)) (λ front. Standing front st) → Beyond (rows ++ (Else ∷ [])) k (suc (length st)) (λ front. Standing front st)
  turned_over st k room s =
      record {
        front = s.front;
        guard = s.guard;
        first = s.body;
        second = nil;
        shallow_first = s.shallow;
        shallow_second = omega (arith, room);
        here = s.here;
        is = sym (append_assoc s.front (If s.guard ∷ listing s.body) (Else ∷ [])) ∙ ap (λ (xs : List Row). xs ++ (Else ∷ [])) s.is;
        beneath = s.beneath;
      }

  pub stands_next : (r : Row) (st : List Open) → Standing rows st → Stands (rows ++ (r ∷ [])) (entered r i st)
  stands_next Idle st h = after_simple skip st h
  stands_next (PutConstant target k) st h = after_simple (assign target (constant k)) st h
  stands_next (SlotWithConstant op target first k) st h = after_simple (assign target (with_constant op first k)) st h
  stands_next (TwoSlots op target first second) st h = after_simple (assign target (two_slots op first second)) st h
  stands_next (If g) st h = by_room If g st (InThen i) (λ room. begun If g st room h) (ltb (length st) 16) refl
  stands_next (While g) st h = by_room While g st (InLoop i) (λ room. begun While g st room h) (ltb (length st) 16) refl
  stands_next Else [] h = tt
  stands_next Else (InThen k ∷ st) h = turned_over st k (few rows (InThen k ∷ st) h) h
  stands_next Else (InElse k j ∷ st) h = tt
  stands_next Else (InLoop k ∷ st) h = tt
  stands_next End [] h = tt
  stands_next End (InThen k ∷ st) h = ended_within If (λ g a. when g a nil) st k (λ g a. refl) (λ g a. omega arith) h
  stands_next End (InElse k j ∷ st) h = ended_beyond st k h
  stands_next End (InLoop k ∷ st) h = ended_within While (λ g a. while g a nil) st k (λ g a. refl) (λ g a. omega arith) h

-- the same for every row of a walk
stands_all : (rest rows : List Row) (i : ℕ) (st : List Open) → length rows ≡ i → Standing rows st → Stands (rows ++ rest) (walk i rest st)
stands_all [] rows i st e h = subst (λ (xs : List Row). Standing xs st) (sym (append-nil rows)) h
stands_all (r ∷ rest) rows i st e h =
    step
    (λ next now. stands_all rest (rows ++ (r ∷ [])) (i + 1) next (omega (arith, e, length-append rows (r ∷ []))) now)
    (entered r i st) (stands_next rows i e r st h)
  where
    step : ((next : List Open) → Standing (rows ++ (r ∷ [])) next → Stands ((rows ++ (r ∷ [])) ++ rest) (walk (i + 1) rest next)) → (s : Result (List Open) RowFault) → Stands (rows ++ (r ∷ [])) s → Stands (rows ++ (r ∷ rest)) (and_then s (walk (i + 1) rest))
    step on (Err fault) now = tt
    step on (Ok next) now =
        subst (λ (xs : List Row). Stands xs (walk (i + 1) rest next)) (append_assoc rows (r ∷ []) rest) (on next now)

-- what rows are that a walk leaves so
pub stands : (rows : List Row) → Stands rows (walk 0 rows [])
stands rows = stands_all rows [] 0 [] refl (record { block = nil; shallow = omega arith; lists = refl })

pub accepted_walk : (s : Result (List Open) RowFault) → accepts s ≡ true → s ≡ Ok []
accepted_walk (Ok []) e = refl
accepted_walk (Ok (o ∷ st)) e = cc
accepted_walk (Err fault) e = cc

-- accepted rows list a block
pub listed : (rows : List Row) → accepts (walk 0 rows []) ≡ true → Program rows
listed rows e = subst (λ (s : Result (List Open) RowFault). Stands rows s) (accepted_walk (walk 0 rows []) e) (stands rows)

pub exact : Exact
exact rows = (
  listed rows,
  λ p. ap accepts (ap (λ (xs : List Row). walk 0 xs []) (sym p.lists) ∙ walk_listing p.block 0 [] (omega (arith, p.shallow))),
)
