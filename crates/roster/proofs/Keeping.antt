-- What the reader's loops keep. Assumes nothing.
use Rattle.std.proofs.Common.{◌≡◌, ℕ, suc, ◌+◌, ◌-◌, ◌*◌, ◌<◌, ◌≤◌, Bool, true, false, cond, not, ◌&&◌, eqb, List, [], ◌∷◌, ◌++◌, length, get_or, take, drop, Some, None, Ok, Err, Option, sym, refl, ap, ◌∙◌, subst, arith}
use Rattle.std.proofs.lemmas.List.{append_assoc, append-nil, length-append, length-take-le, nil_from_length, take_all, take_more}
use Rattle.std.proofs.lemmas.Bool.{ne_eqb, eqb-false, not-true, and_parts}
use Rattle.roster.specs.declared.fault.RosterFault.TheVariants.{Line}
use Rattle.roster.specs.declared.fault.LineReason.{LineReason}
use Rattle.roster.specs.declared.fault.LineReason.TheVariants.{Form}
use Rattle.table.specs.declared.table.Table.{Table}
use Rattle.roster.specs.declared.place.Place as code
use Rattle.roster.specs.declared.place.Step.{Step}
use Rattle.roster.specs.declared.place.Step.TheVariants.{Never, On, Whole as Done}
use Rattle.numerals.specs.Numerals.{is_digit}
use Rattle.roster.specs.Spelling.{person, Entry, spell, FaultAt}
use Rattle.roster.specs.Reading.{Place, start, letter_of, comma, number, comma_after, label, Next, never, more, whole, grown, after, fault_in, read_from, lines_of}
use Rattle.roster.specs.Places.{place_of, some_line, stepped}
use Rattle.roster.specs.Parts.{unended, KeptAs}
use Rattle.roster.proofs.Front.{so_far, Adds, adds, Ends, ends, past_end}
use Rattle.roster.proofs.Faulty.{fault_now, at_length, parted_at, scan_fault}
use Rattle.roster.proofs.Scans.{listed, scan_none, scan_spell}

-- ---- the code's place stands for what was said

on_test : (z : Bool) (p q : Place) → place_of p ≡ place_of q → stepped (cond z (more p) never) ≡ stepped (cond z (more q) never)
on_test true p q e = ap On e
on_test false p q e = refl

-- a number goes on alike where both are 0 or neither is
grown_alike : (n m b : ℕ) (at by : ℕ → Place) → eqb n 0 ≡ eqb m 0 → ((x y : ℕ) → eqb x 0 ≡ eqb y 0 → place_of (at x) ≡ place_of (by y)) → stepped (grown n b at) ≡ stepped (grown m b by)
grown_alike n m b at by e same =
    ap (λ (z : Bool). stepped (cond (is_digit b && not z) (more (at (n * 10 + (b - 48)))) never)) e ∙ go (is_digit b && not (eqb m 0)) refl
  where
    go : (z : Bool) → (is_digit b && not (eqb m 0)) ≡ z → stepped (cond z (more (at (n * 10 + (b - 48)))) never) ≡ stepped (cond z (more (by (m * 10 + (b - 48)))) never)
    go true h =
        let some = eqb-false m 0 (not-true (eqb m 0) (and_parts (is_digit b) (not (eqb m 0)) h).1) in
        let also = eqb-false n 0 (e ∙ not-true (eqb m 0) (and_parts (is_digit b) (not (eqb m 0)) h).1) in
        ap On (same (n * 10 + (b - 48)) (m * 10 + (b - 48)) (ne_eqb (n * 10 + (b - 48)) 0 (λ x. also (omega arith)) ∙ sym (ne_eqb (m * 10 + (b - 48)) 0 (λ x. some (omega arith)))))
    go false h = refl

stands_for : (n : ℕ) (z : Bool) → eqb n 0 ≡ z → eqb (cond z 0 1) 0 ≡ eqb n 0
stands_for n true e = sym e
stands_for n false e = sym e

either : (z : Bool) (x y u v : Next) → stepped x ≡ stepped u → stepped y ≡ stepped v → stepped (cond z x y) ≡ stepped (cond z u v)
either true x y u v e f = e
either false x y u v e f = f

pub same_step : (p : Place) (b : ℕ) → stepped (after (some_line (place_of p)) b) ≡ stepped (after p b)
same_step start b = refl
same_step (letter_of k) b = on_test (eqb b 44) (comma person) (comma k) refl
same_step (comma k) b = on_test (is_digit b) (number person (b - 48)) (number k (b - 48)) refl
same_step (number k n) b =
    let m = cond (eqb n 0) 0 1 in
    either (eqb b 44) (more (comma_after person m)) (grown m b (number person)) (more (comma_after k n)) (grown n b (number k)) refl
    (grown_alike m n b (number person) (number k) (stands_for n (eqb n 0) refl) (λ x y e. ap code.Place.Number e))
same_step (comma_after k n) b = on_test (is_digit b) (label person 0 (b - 48)) (label k n (b - 48)) refl
same_step (label k n m) b =
    let o = cond (eqb m 0) 0 1 in
    either (eqb b 10) (whole (record { kind = person; number = 0; label = o })) (grown o b (label person 0)) (whole (record { kind = k; number = n; label = m })) (grown m b (label k n)) refl
    (grown_alike o m b (label person 0) (label k n) (stands_for m (eqb m 0) refl) (λ x y e. ap code.Place.Label e))

-- ---- the bytes of a line

abbrev which : Step → ℕ
which Never = 0
which (On p) = 1
which Done = 2

-- the first i bytes of a text lead to the place
pub record Led (text : List ℕ) (i : ℕ) (place : code.Place) : Type 0 where
  pub said : Place
  pub place_is : place ≡ place_of said
  pub bytes : so_far said ≡ take i text

module _ {text : List ℕ} {i : ℕ} {place : code.Place} (g : Led text i place) where
  -- what the code says of the next byte is what the reading says
  said_so : (s : Step) (b : ℕ) (n : Next) → s ≡ stepped (after (some_line place) b) → after g.said b ≡ n → s ≡ stepped n
  said_so s b n told e = told ∙ (ap (λ (p : code.Place). stepped (after (some_line p) b)) g.place_is ∙ (same_step g.said b ∙ ap stepped e))

  -- so it says no other
  other : (s : Step) (b : ℕ) (n : Next) → s ≡ stepped (after (some_line place) b) → after g.said b ≡ n → which s ≡ which (stepped n)
  other s b n told e = ap which (said_so s b n told e)

  pub led_end : length text ≤ i → FaultAt text (length text)
  led_end l =
      let all : so_far g.said ≡ text = g.bytes ∙ take_all i text l in
      at_length text (length (so_far g.said)) (length text) (ap length all)
      (subst (λ (xs : List ℕ). FaultAt xs (length (so_far g.said))) (append-nil (so_far g.said) ∙ all) (fault_now g.said [] (past_end g.said)))

  module _ (l : i < length text) where
    parted : so_far g.said ++ (get_or text i 0 ∷ drop (i + 1) text) ≡ text
    parted = ap (λ (xs : List ℕ). xs ++ (get_or text i 0 ∷ drop (i + 1) text)) g.bytes ∙ sym (parted_at text i 0 l)

    pub led_never : Never ≡ stepped (after (some_line place) (get_or text i 0)) → FaultAt text i
    led_never told = go (after g.said (get_or text i 0)) refl
      where
        go : (n : Next) → after g.said (get_or text i 0) ≡ n → FaultAt text i
        go never e =
            at_length text (length (so_far g.said)) i (ap length g.bytes ∙ length-take-le i text (omega arith))
            (subst (λ (xs : List ℕ). FaultAt xs (length (so_far g.said))) parted (fault_now g.said (get_or text i 0 ∷ drop (i + 1) text) e))
        go (more q) e = absurd (omega (arith, other Never (get_or text i 0) (more q) told e))
        go (whole x) e = absurd (omega (arith, other Never (get_or text i 0) (whole x) told e))

    pub led_on : (next : code.Place) → On next ≡ stepped (after (some_line place) (get_or text i 0)) → Led text (i + 1) next
    led_on next told = go (after g.said (get_or text i 0)) refl
      where
        go : (n : Next) → after g.said (get_or text i 0) ≡ n → Led text (i + 1) next
        go never e = absurd (omega (arith, other (On next) (get_or text i 0) never told e))
        go (whole x) e = absurd (omega (arith, other (On next) (get_or text i 0) (whole x) told e))
        go (more q) e =
            let s = said_so (On next) (get_or text i 0) (more q) told e in
            let is : next ≡ place_of q = cc in
            let a : so_far q ≡ so_far g.said ++ (get_or text i 0 ∷ []) = subst (Adds g.said (get_or text i 0)) e (adds g.said (get_or text i 0)) in
            record { said = q; place_is = is; bytes = a ∙ (ap (λ (xs : List ℕ). xs ++ (get_or text i 0 ∷ [])) g.bytes ∙ sym (take_more text i 0 l)) }

    pub led_whole : Done ≡ stepped (after (some_line place) (get_or text i 0)) → (e : Entry) × (take i text ≡ unended e) × (text ≡ spell e ++ drop (i + 1) text)
    led_whole told = go (after g.said (get_or text i 0)) refl
      where
        go : (n : Next) → after g.said (get_or text i 0) ≡ n → (e : Entry) × (take i text ≡ unended e) × (text ≡ spell e ++ drop (i + 1) text)
        go never e = absurd (omega (arith, other Done (get_or text i 0) never told e))
        go (more q) e = absurd (omega (arith, other Done (get_or text i 0) (more q) told e))
        go (whole x) e =
            let all : so_far g.said ≡ unended x = subst (Ends g.said) e (ends g.said (get_or text i 0)) in
            let a : spell x ≡ so_far g.said ++ (get_or text i 0 ∷ []) = subst (Adds g.said (get_or text i 0)) e (adds g.said (get_or text i 0)) in
            (x, sym g.bytes ∙ all, sym parted ∙ (sym (append_assoc (so_far g.said) (get_or text i 0 ∷ []) (drop (i + 1) text)) ∙ ap (λ (xs : List ℕ). xs ++ drop (i + 1) text) (sym a)))

-- ---- a line that is listed, or refused

kept_err : (o : Option LineReason) (w : ℕ) (t u : Table) (i : ℕ) (e : Entry) (bs : List ℕ) (reason : LineReason) → KeptAs o e t (Err reason) u → Err (Line i reason) ≡ listed o w t i e bs
kept_err (Some y) w t u i e bs reason k = let s : reason ≡ y = let h = k.0 in cc in ap (λ (x : LineReason). Err (Line i x)) s
kept_err None w t u i e bs reason k = let h = k.0 in let z : ◌≡◌ {A = ℕ} 0 1 = cc in absurd (omega arith)

kept_ok : (o : Option LineReason) (w : ℕ) (t u : Table) (i : ℕ) (e : Entry) (bs : List ℕ) → KeptAs o e t (Ok tt) u → read_from w u (suc i) start 0 bs ≡ listed o w t i e bs
kept_ok (Some y) w t u i e bs k = let h = k.0 in let z : ◌≡◌ {A = ℕ} 0 1 = cc in absurd (omega arith)
kept_ok None w t u i e bs k = ap (λ (x : Table). read_from w x (suc i) start 0 bs) k.1

-- ---- the lines of a text

-- What is left of the text is read to what the text is read to.
pub record Going (w : ℕ) (text : List ℕ) (t : Table) (line : ℕ) (left : List ℕ) : Type 0 where
  pub few : line + length left ≤ length text
  pub onward : read_from w t line start 0 left ≡ lines_of w text

module _ {w : ℕ} {text : List ℕ} {t : Table} {line : ℕ} {left : List ℕ} (g : Going w text t line left) where
  pub going_done : length left ≡ 0 → Ok t ≡ lines_of w text
  going_done none = sym (scan_none w t line start) ∙ (ap (read_from w t line start 0) (sym (nil_from_length left none)) ∙ g.onward)

  pub going_formless : (k : ℕ) → 0 < length left → FaultAt left k → Err (Line line (Form k)) ≡ lines_of w text
  going_formless k some f = sym (scan_fault w t line left k some f) ∙ g.onward

  module _ (e : Entry) (rest : List ℕ) (is : left ≡ spell e ++ rest) where
    listed_on : listed (fault_in w e t) w t line e rest ≡ lines_of w text
    listed_on = sym (scan_spell w t line e rest) ∙ (ap (read_from w t line start 0) (sym is) ∙ g.onward)

    pub going_refused : (reason : LineReason) (u : Table) → KeptAs (fault_in w e t) e t (Err reason) u → Err (Line line reason) ≡ lines_of w text
    going_refused reason u k = kept_err (fault_in w e t) w t u line e rest reason k ∙ listed_on

    pub going_shorter : length rest < length left
    going_shorter = omega (arith, ap length is, length-append (spell e) rest)

    pub going_next : (u : Table) → KeptAs (fault_in w e t) e t (Ok tt) u → Going w text u (line + 1) rest
    going_next u k =
        let m : suc line ≡ line + 1 = omega arith in
        record {
          few = omega (arith, g.few, going_shorter);
          onward = ap (λ (i : ℕ). read_from w u i start 0 rest) (sym m) ∙ (kept_ok (fault_in w e t) w t u line e rest k ∙ listed_on);
        }
