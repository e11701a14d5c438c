-- A line is read as the call that it spells. Assumes nothing.
use Rattle.std.proofs.Common.{◌≡◌, ℕ, zero, suc, ◌+◌, ◌*◌, ◌/◌, ◌%◌, ◌<◌, Bool, true, false, cond, ◌&&◌, eqb, ltb, List, [], ◌∷◌, ◌++◌, ℤ, pos, negsuc, Some, None, Option, sym, refl, ap, ◌∙◌, subst, arith, w32, SFits}
use Rattle.std.specs.Option.{option_map}
use Rattle.std.specs.List.{AllByRecursion}
use Rattle.std.proofs.lemmas.Bool.{and_parts, and_from, cond-true, eqb-true, ne_eqb, ltb-true, lt-ltb}
use Rattle.std.proofs.lemmas.Bool.Decides.{nat_tests}
use Rattle.numerals.specs.Decimal.{written}
use Rattle.numerals.specs.Numerals.{is_number, value_of}
use Rattle.numerals.proofs.Numbers.{IsDigit, stands, written_digits, value_written, number_written}
use Rattle.console.specs.Fields.{written_value, hexadecimal_digit, hexadecimal}
use Rattle.noninterference.specs.Monitor.{Call, lay, view, run}
use Rattle.console.specs.Calls.{spelled, InRange, Says, call, faulty}
use Rattle.numerals.specs.Fields.{cut}
use Rattle.console.specs.Reading.{and_then, number_below, below_zero, value_after_minus, value_in, figure, byte_of, bytes_in, lay_in, view_in, run_fields, run_in, call_in, ReadingStands}
use Rattle.numerals.proofs.Cutting.{cut_written, cut_sound}

-- ---- what is found

none_some : {A : Type 0} {x : A} → ◌≡◌ {A = Option A} None (Some x) → ⊥
none_some e = let z : ◌≡◌ {A = ℕ} 0 1 = cc in omega arith

some_then : {A B : Type 0} (o : Option A) (f : A → Option B) (y : B) → and_then o f ≡ Some y → (x : A) × (o ≡ Some x) × (f x ≡ Some y)
some_then None f y e = absurd (none_some e)
some_then (Some x) f y e = (x, refl, e)

some_mapped : {A B : Type 0} (o : Option A) (f : A → B) (y : B) → option_map f o ≡ Some y → (x : A) × (o ≡ Some x) × (f x ≡ y)
some_mapped None f y e = absurd (none_some e)
some_mapped (Some x) f y e = (x, refl, cc)

-- ---- numbers

below_sound : (limit : ℕ) (field : List ℕ) (n : ℕ) → number_below limit field ≡ Some n → (n < limit) × (field ≡ written n)
below_sound limit field n e = go (is_number field && ltb (value_of field) limit) refl e
  where
    go : (z : Bool) → (is_number field && ltb (value_of field) limit) ≡ z → cond z (Some (value_of field)) None ≡ Some n → (n < limit) × (field ≡ written n)
    go false h f = absurd (none_some f)
    go true h f =
        let parts = and_parts (is_number field) (ltb (value_of field) limit) h in
        let is : value_of field ≡ n = cc in
        let w = stands.written_so field parts.0 in
        let same : w.0 ≡ n = sym (value_written w.0) ∙ (ap value_of (sym w.1) ∙ is) in
        (omega (arith, ltb-true (value_of field) limit parts.1, is), w.1 ∙ ap written same)

below_written : (limit n : ℕ) → n < limit → number_below limit (written n) ≡ Some n
below_written limit n l =
    let small : ltb (value_of (written n)) limit ≡ true = ap (λ (k : ℕ). ltb k limit) (value_written n) ∙ lt-ltb n limit l in
    cond-true (is_number (written n) && ltb (value_of (written n)) limit) (Some (value_of (written n))) None (and_from (is_number (written n)) (ltb (value_of (written n)) limit) (number_written n) small)
    ∙ ap Some (value_written n)

-- ---- values

minus_sound : (n : ℕ) (v : ℤ) → n < 2147483649 → below_zero n ≡ Some v → SFits w32 v × (45 ∷ written n ≡ written_value v)
minus_sound zero v l e = absurd (none_some e)
minus_sound (suc n) v l e =
    let is : negsuc n ≡ v = cc in
    subst (λ (x : ℤ). SFits w32 x × (45 ∷ written (suc n) ≡ written_value x)) is (record { sfits = omega arith }, refl)

value_sound : (field : List ℕ) (v : ℤ) → value_in field ≡ Some v → SFits w32 v × (field ≡ written_value v)
value_sound [] v e = absurd (none_some e)
value_sound (b ∷ bs) v e = go (eqb b 45) refl e
  where
    go : (z : Bool) → eqb b 45 ≡ z → cond z (value_after_minus bs) (option_map pos (number_below 2147483648 (b ∷ bs))) ≡ Some v → SFits w32 v × (b ∷ bs ≡ written_value v)
    go true h f =
        let n = some_then (number_below 2147483649 bs) below_zero v f in
        let told = below_sound 2147483649 bs n.0 n.1 in
        let m = minus_sound n.0 v told.0 n.2 in
        (m.0, rw (eqb-true b 45 h, told.1) m.1)
    go false h f =
        let n = some_mapped (number_below 2147483648 (b ∷ bs)) pos v f in
        let told = below_sound 2147483648 (b ∷ bs) n.0 n.1 in
        subst (λ (x : ℤ). SFits w32 x × (b ∷ bs ≡ written_value x)) n.2 (record { sfits = omega (arith, told.0) }, told.1)

value_digits : (field : List ℕ) (n : ℕ) → AllByRecursion IsDigit field → number_below 2147483648 field ≡ Some n → value_in field ≡ Some (pos n)
value_digits [] n all e = absurd (none_some e)
value_digits (b ∷ bs) n all e =
    let digit : eqb b 45 ≡ false = ne_eqb b 45 (λ h. omega (arith, all.0.0)) in
    rw (digit, e)

value_written_back : (v : ℤ) → SFits w32 v → value_in (written_value v) ≡ Some v
value_written_back (pos n) fits = value_digits (written n) n (written_digits n) (below_written 2147483648 n (omega (arith, fits.sfits)))
value_written_back (negsuc n) fits = rw (below_written 2147483649 (suc n) (omega (arith, fits.sfits)))

-- ---- hexadecimal digits

figure_sound : (b d : ℕ) → figure b ≡ Some d → (d < 16) × (b ≡ hexadecimal_digit d)
figure_sound b d e = (grind (arith, nat_tests), grind (arith, nat_tests))

figure_digit : (d : ℕ) → d < 16 → figure (hexadecimal_digit d) ≡ Some d
figure_digit d l = grind (arith, nat_tests)

three : {a b x y : ℕ} {cs xs : List ℕ} → a ≡ x → b ≡ y → cs ≡ xs → a ∷ b ∷ cs ≡ x ∷ y ∷ xs
three p q r = cc

bytes_sound : (digits bs : List ℕ) → bytes_in digits ≡ Some bs → AllByRecursion (λ b. b < 256) bs × (digits ≡ hexadecimal bs)
bytes_sound [] bs e = let is : [] ≡ bs = cc in subst (λ (x : List ℕ). AllByRecursion (λ b. b < 256) x × ([] ≡ hexadecimal x)) is (tt, refl)
bytes_sound (high ∷ []) bs e = absurd (none_some e)
bytes_sound (high ∷ low ∷ rest) bs e =
    let b = some_then (byte_of high low) (λ b. option_map (λ bs. b ∷ bs) (bytes_in rest)) bs e in
    let more = some_mapped (bytes_in rest) (λ bs. b.0 ∷ bs) bs b.2 in
    let h = some_then (figure high) (λ h. and_then (figure low) (λ l. Some (h * 16 + l))) b.0 b.1 in
    let l = some_then (figure low) (λ l. Some (h.0 * 16 + l)) b.0 h.2 in
    let ih = bytes_sound rest more.0 more.1 in
    let hs = figure_sound high h.0 h.1 in
    let ls = figure_sound low l.0 l.1 in
    let is : h.0 * 16 + l.0 ≡ b.0 = cc in
    let q : b.0 / 16 ≡ h.0 = omega (arith, hs.0, ls.0, is) in
    let r : b.0 % 16 ≡ l.0 = omega (arith, hs.0, ls.0, is) in
    subst (λ (x : List ℕ). AllByRecursion (λ b. b < 256) x × (high ∷ low ∷ rest ≡ hexadecimal x)) more.2
    ((omega (arith, hs.0, ls.0, is), ih.0), three (hs.1 ∙ ap hexadecimal_digit (sym q)) (ls.1 ∙ ap hexadecimal_digit (sym r)) ih.1)

bytes_hexadecimal : (bs : List ℕ) → AllByRecursion (λ b. b < 256) bs → bytes_in (hexadecimal bs) ≡ Some bs
bytes_hexadecimal [] all = refl
bytes_hexadecimal (b ∷ bs) all =
    let whole : b / 16 * 16 + b % 16 ≡ b = omega arith in
    rw (figure_digit (b / 16) (omega (arith, all.0)), figure_digit (b % 16) (omega arith), bytes_hexadecimal bs all.1) (ap (λ (x : ℕ). Some (x ∷ bs)) whole)

-- ---- lines

-- a text of three fields
fields : {text a b rest d a' b' d' : List ℕ} → text ≡ a ++ (44 ∷ rest) → rest ≡ b ++ (44 ∷ d) → a ≡ a' → b ≡ b' → d ≡ d' →
    text ≡ a' ++ (44 ∷ (b' ++ (44 ∷ d')))
fields p q ea eb ed = cc

abbrev Fields : Type 0
Fields = ℕ × ℕ × List ℕ

lay_sound : (text : List ℕ) (c : Call) → lay_in text ≡ Some c → InRange c × (76 ∷ 44 ∷ text ≡ spelled c)
lay_sound text c e =
    let a = some_then (cut text) _ c e in
    let b = some_then (cut a.0.1) _ c a.2 in
    let n = some_then (number_below 256 a.0.0) _ c b.2 in
    let i = some_then (number_below 256 b.0.0) _ c n.2 in
    let v = some_mapped (value_in b.0.1) _ c i.2 in
    let ns = below_sound 256 a.0.0 n.0 n.1 in
    let is = below_sound 256 b.0.0 i.0 i.1 in
    let vs = value_sound b.0.1 v.0 v.1 in
    let first = cut_sound text a.0 a.1 in
    let second = cut_sound a.0.1 b.0 b.1 in
    subst (λ (x : Call). InRange x × (76 ∷ 44 ∷ text ≡ spelled x)) v.2
    ((ns.0, is.0, vs.0), ap (λ (x : List ℕ). 76 ∷ 44 ∷ x) (fields first second ns.1 is.1 vs.1))

view_sound : (text : List ℕ) (c : Call) → view_in text ≡ Some c → InRange c × (86 ∷ 44 ∷ text ≡ spelled c)
view_sound text c e =
    let a = some_then (cut text) _ c e in
    let n = some_then (number_below 256 a.0.0) _ c a.2 in
    let i = some_mapped (number_below 256 a.0.1) _ c n.2 in
    let ns = below_sound 256 a.0.0 n.0 n.1 in
    let is = below_sound 256 a.0.1 i.0 i.1 in
    let first = cut_sound text a.0 a.1 in
    subst (λ (x : Call). InRange x × (86 ∷ 44 ∷ text ≡ spelled x)) i.2 ((ns.0, is.0), cc)

run_sound : (text : List ℕ) (c : Call) → run_in text ≡ Some c → InRange c × (82 ∷ 44 ∷ text ≡ spelled c)
run_sound text c e =
    let f = some_then (run_fields text) _ c e in
    let s = some_mapped (bytes_in f.0.2) _ c f.2 in
    let a = some_then (cut text) _ f.0 f.1 in
    let b = some_then (cut a.0.1) _ f.0 a.2 in
    let n = some_then (number_below 256 a.0.0) _ f.0 b.2 in
    let t = some_mapped (number_below 65536 b.0.0) _ f.0 n.2 in
    let ns = below_sound 256 a.0.0 n.0 n.1 in
    let ts = below_sound 65536 b.0.0 t.0 t.1 in
    let ss = bytes_sound f.0.2 s.0 s.1 in
    let first = cut_sound text a.0 a.1 in
    let second = cut_sound a.0.1 b.0 b.1 in
    let person : n.0 ≡ f.0.0 = ap (λ (p : Fields). p.0) t.2 in
    let turns : t.0 ≡ f.0.1 = ap (λ (p : Fields). p.1) t.2 in
    let digits : b.0.1 ≡ f.0.2 = ap (λ (p : Fields). p.2) t.2 in
    subst (λ (x : Call). InRange x × (82 ∷ 44 ∷ text ≡ spelled x)) s.2 (
      (omega (arith, ns.0, person), omega (arith, ts.0, turns), ss.0),
      ap (λ (x : List ℕ). 82 ∷ 44 ∷ x) (fields first second (ns.1 ∙ ap written person) (ts.1 ∙ ap written turns) (digits ∙ ss.1)),
    )

call_sound : (line : List ℕ) (c : Call) → call_in line ≡ Some c → InRange c × (line ≡ spelled c)
call_sound [] c e = absurd (none_some e)
call_sound (letter ∷ []) c e = absurd (none_some e)
call_sound (letter ∷ comma ∷ text) c e = go (eqb comma 44) refl (eqb letter 76) refl (eqb letter 86) refl (eqb letter 82) refl e
  where
    go : (z : Bool) → eqb comma 44 ≡ z → (l : Bool) → eqb letter 76 ≡ l → (v : Bool) → eqb letter 86 ≡ v → (r : Bool) → eqb letter 82 ≡ r →
        cond z (cond l (lay_in text) (cond v (view_in text) (cond r (run_in text) None))) None ≡ Some c → InRange c × (letter ∷ comma ∷ text ≡ spelled c)
    go false ze l le v ve r re f = absurd (none_some f)
    go true ze true le v ve r re f = rw (eqb-true letter 76 le, eqb-true comma 44 ze) (lay_sound text c f)
    go true ze false le true ve r re f = rw (eqb-true letter 86 ve, eqb-true comma 44 ze) (view_sound text c f)
    go true ze false le false ve true re f = rw (eqb-true letter 82 re, eqb-true comma 44 ze) (run_sound text c f)
    go true ze false le false ve false re f = absurd (none_some f)

spelled_back : (c : Call) → InRange c → call_in (spelled c) ≡ Some c
spelled_back (lay n i v) (nr, ir, vr) =
    rw (cut_written n (written i ++ (44 ∷ written_value v)), cut_written i (written_value v), below_written 256 n nr, below_written 256 i ir, value_written_back v vr)
spelled_back (view n i) (nr, ir) = rw (cut_written n (written i), below_written 256 n nr, below_written 256 i ir)
spelled_back (run n sheet turns) (nr, tr, sr) =
    rw (cut_written n (written turns ++ (44 ∷ hexadecimal sheet)), cut_written turns (hexadecimal sheet), below_written 256 n nr, below_written 65536 turns tr, bytes_hexadecimal sheet sr)

pub reading : ReadingStands
reading = record { read = read; one = one }
  where
    read : (line : List ℕ) → Says line (call_in line)
    read line = go (call_in line) refl
      where
        go : (o : Option Call) → call_in line ≡ o → Says line o
        go None e = faulty (λ c r s. none_some (sym e ∙ (ap call_in s ∙ spelled_back c r)))
        go (Some c) e = let s = call_sound line c e in call s.0 s.1

    one : (c d : Call) → InRange c → InRange d → spelled c ≡ spelled d → c ≡ d
    one c d rc rd e =
        let same : Some c ≡ Some d = sym (spelled_back c rc) ∙ (ap call_in e ∙ spelled_back d rd) in
        cc
