-- The offset of a fault of form: the reading stops there, and there alone. Assumes nothing.
use Rattle.std.proofs.Common.{◌≡◌, ℕ, suc, ◌+◌, ◌<◌, List, [], ◌∷◌, ◌++◌, length, get_or, take, drop, Err, sym, refl, ap, ◌∙◌, subst, ⊎_elim, add-zero, arith}
use Rattle.std.proofs.lemmas.List.{append_assoc, append-nil, length-append, length_push, length-take-le, take-append-drop, take-take, take_at, take-append-le, drop_more, get_or-take, get_or-append-add, get_or_append_left}
use Rattle.std.proofs.lemmas.Bool.{cases_lt, cases_order}
use Rattle.roster.specs.Spelling.{Entry, spell, May, FaultAt}
use Rattle.roster.specs.declared.fault.RosterFault.TheVariants.{Line}
use Rattle.roster.specs.declared.fault.LineReason.TheVariants.{Form}
use Rattle.table.specs.declared.table.Table.{Table}
use Rattle.roster.specs.Reading.{Place, start, Next, never, more, whole, after, read_from}
use Rattle.roster.proofs.Front.{so_far, Adds, adds, opens, past_end}
use Rattle.roster.proofs.Leads.{Lead, found, stuck, lead, lead_step, lead_spell, never_may, found_is}
use Rattle.roster.proofs.Scans.{leading, scan_lead}

-- the reading stops at a byte that no line has there
pub fault_now : (p : Place) (bs : List ℕ) → after p (get_or bs 0 256) ≡ never → FaultAt (so_far p ++ bs) (length (so_far p))
fault_now p bs stop =
    let front : take (length (so_far p)) (so_far p ++ bs) ≡ so_far p = take_at (so_far p) bs (length (so_far p)) refl in
    let byte : get_or (so_far p ++ bs) (length (so_far p)) 256 ≡ get_or bs 0 256 =
    ap (λ (k : ℕ). get_or (so_far p ++ bs) k 256) (sym (add-zero (length (so_far p)))) ∙ get_or-append-add (so_far p) bs 0 256 in
    record {
      within = omega (arith, length-append (so_far p) bs);
      before = ((opens p).0, subst (λ (xs : List ℕ). May xs (opens p).0) (sym front) (opens p).1);
      here = λ m. never_may p (get_or bs 0 256) stop (subst (May (so_far p)) byte (subst (λ (xs : List ℕ). May xs (get_or (so_far p ++ bs) (length (so_far p)) 256)) front m));
    }

pub at_length : (rest : List ℕ) (j k : ℕ) → j ≡ k → FaultAt rest j → FaultAt rest k
at_length rest j k e f = subst (FaultAt rest) e f

pub stuck_is : (bs : List ℕ) (p : Place) (k j : ℕ) → length (so_far p) ≡ k → lead p k bs ≡ stuck j → FaultAt (so_far p ++ bs) j
stuck_is [] p k j len h = let s : k ≡ j = cc in at_length (so_far p ++ []) (length (so_far p)) j (len ∙ s) (fault_now p [] (past_end p))
stuck_is (b ∷ bs) p k j len h = go (after p b) refl (λ q. stuck_is bs q (suc k) j)
  where
    go : (n : Next) → after p b ≡ n → ((q : Place) → length (so_far q) ≡ suc k → lead q (suc k) bs ≡ stuck j → FaultAt (so_far q ++ bs) j) → FaultAt (so_far p ++ (b ∷ bs)) j
    go never stop on =
        let s = lead_step p k b bs never stop in
        let e : k ≡ j = cc in
        at_length (so_far p ++ (b ∷ bs)) (length (so_far p)) j (len ∙ e) (fault_now p (b ∷ bs) stop)
    go (more q) step on =
        let s = lead_step p k b bs (more q) step in
        let a : so_far q ≡ so_far p ++ (b ∷ []) = subst (Adds p b) step (adds p b) in
        let n : length (so_far q) ≡ suc k = omega (arith, ap length a, length_push (so_far p) b) in
        subst (λ (xs : List ℕ). FaultAt xs j) (ap (λ (xs : List ℕ). xs ++ bs) a ∙ append_assoc (so_far p) (b ∷ []) bs) (on q n (sym s ∙ h))
    go (whole z) step on = let s = lead_step p k b bs (whole z) step in let o : ◌≡◌ {A = ℕ} 0 1 = cc in absurd (omega arith)

-- ---- there is one such offset, and none where a line is whole

-- a front of xs, and its byte at k
pub parted_at : (xs : List ℕ) (k d : ℕ) → k < length xs → xs ≡ take k xs ++ (get_or xs k d ∷ drop (k + 1) xs)
parted_at xs k d l = sym (take-append-drop k xs) ∙ ap (λ (ys : List ℕ). take k xs ++ ys) (drop_more xs k d l)

earlier : (rest : List ℕ) (k j : ℕ) → k < j → FaultAt rest k → FaultAt rest j → ⊥
earlier rest k j l f g =
    let front = take j rest in
    let long : length front ≡ j = length-take-le j rest g.within in
    let e = g.before.1.0 in
    let on = g.before.0 ∷ g.before.1.1 in
    let tail = drop (k + 1) front in
    let x = get_or rest k 256 in
    let parts : front ≡ take k rest ++ (x ∷ tail) =
    parted_at front k 256 (omega arith)
    ∙ (ap (λ (ys : List ℕ). ys ++ (get_or front k 256 ∷ tail)) (take-take k j rest (omega arith))
    ∙ ap (λ (y : ℕ). take k rest ++ (y ∷ tail)) (get_or-take j rest k 256 l)) in
    f.here (e, tail ++ on, g.before.1.2 ∙ (ap (λ (ys : List ℕ). ys ++ on) parts ∙ append_assoc (take k rest) (x ∷ tail) on))

pub same_fault : (rest : List ℕ) (k j : ℕ) → FaultAt rest k → FaultAt rest j → k ≡ j
same_fault rest k j f g = ⊎_elim (λ e. e) (λ o. ⊎_elim (λ l. absurd (earlier rest k j l f g)) (λ l. absurd (earlier rest j k l g f)) o) (cases_order k j)

pub not_whole : (rest : List ℕ) (k : ℕ) (e : Entry) (tail : List ℕ) → FaultAt rest k → rest ≡ spell e ++ tail → ⊥
not_whole rest k e tail f is =
    ⊎_elim
    (λ l.
    let front : take k rest ≡ take k (spell e) = ap (take k) is ∙ take-append-le k (spell e) tail (omega arith) in
    let byte : get_or rest k 256 ≡ get_or (spell e) k 256 = ap (λ (ys : List ℕ). get_or ys k 256) is ∙ get_or_append_left (spell e) tail 256 k l in
    let rest_of = drop (k + 1) (spell e) in
    f.here (e, rest_of, parted_at (spell e) k 256 l ∙ (ap (λ (ys : List ℕ). ys ++ (get_or (spell e) k 256 ∷ rest_of)) (sym front) ∙ ap (λ (y : ℕ). take k rest ++ (y ∷ rest_of)) (sym byte))))
    (λ l.
    let n = length (spell e) in
    let ys = drop n (take k rest) in
    let other = f.before.1.0 in
    let on = f.before.0 ∷ f.before.1.1 in
    let front : take k rest ≡ spell e ++ ys =
    sym (take-append-drop n (take k rest)) ∙ ap (λ (xs : List ℕ). xs ++ ys) (take-take n k rest l ∙ (ap (take n) is ∙ take_at (spell e) tail n refl)) in
    let both : spell other ++ [] ≡ spell e ++ (ys ++ on) =
    append-nil (spell other) ∙ (f.before.1.2 ∙ (ap (λ (xs : List ℕ). xs ++ on) front ∙ append_assoc (spell e) ys on)) in
    let same : found other [] ≡ found e (ys ++ on) = sym (lead_spell other []) ∙ (ap (lead start 0) both ∙ lead_spell e (ys ++ on)) in
    let none : [] ≡ ys ++ on = cc in
    omega (arith, ap length none, length-append ys on))
    (cases_lt k (length (spell e)))

-- the reading stops at the fault
pub fault_stops : (rest : List ℕ) (k : ℕ) → FaultAt rest k → lead start 0 rest ≡ stuck k
fault_stops rest k f = go (lead start 0 rest) refl
  where
    go : (l : Lead) → lead start 0 rest ≡ l → l ≡ stuck k
    go (stuck j) e = ap stuck (same_fault rest j k (stuck_is rest start 0 j refl e) f)
    go (found z tail) e = absurd (not_whole rest k z tail f (found_is rest start 0 z tail e))

-- and the reading of a text is at fault there
pub scan_fault : (w : ℕ) (t : Table) (i : ℕ) (rest : List ℕ) (k : ℕ) → 0 < length rest → FaultAt rest k → read_from w t i start 0 rest ≡ Err (Line i (Form k))
scan_fault w t i [] k some f = absurd (omega (arith, some))
scan_fault w t i (b ∷ bs) k some f = scan_lead w t i bs start 0 b ∙ ap (λ (l : Lead). leading l w t i) (fault_stops (b ∷ bs) k f)
