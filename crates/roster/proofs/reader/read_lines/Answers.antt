use Rattle.std.proofs.Common.{◌≡◌, ℕ, ◌<◌, length, Ok, Err, Result, refl, ap, ◌∙◌, subst, arith, rules}
use Rattle.roster.specs.declared.fault.RosterFault.TheVariants.{Line}
use Rattle.roster.specs.declared.fault.LineReason.TheVariants.{Form}
use Rattle.roster.specs.Spelling.{FaultAt}
use Rattle.roster.specs.declared.fault.LineReason.{LineReason}
use Rattle.roster.specs.Reading.{fault_in, lines_of}
use Rattle.roster.specs.Parts.{Begins, KeptAs}
use Rattle.roster.proofs.Keeping.{going_formless, going_refused, going_next, going_done}
use Rattle.roster.proofs.reader.read_lines.Goals as goal

by_result : {A E : Type 0} {P : Type 0} (r : Result A E) → ((x : A) → r ≡ Ok x → P) → ((e : E) → r ≡ Err e → P) → P
by_result (Ok x) f g = f x refl
by_result (Err e) f g = g e refl

pub returns-in_err-entry : goal.returns-in_err-entry
returns-in_err-entry c =
    let some : 0 < length c.loop-left.left.now = search rules in
    let fact : Err c.in_err-entry.field-0.0 ≡ lines_of c.args.width c.args.text.now =
    by_result c.first_line.result
    (λ x h. let z : ◌≡◌ {A = ℕ} 0 1 = search (rules, h) in absurd (omega arith))
    (λ k h.
    let f : FaultAt c.loop-left.left.now k = search (rules, h) in
    let e : c.in_err-entry.field-0.0 ≡ Line c.loop-left.line (Form k) = search (rules, h) in
    ap Err e ∙ going_formless c.loop-left.invariant k some f) in
    search (rules, fact)

pub returns-in_err-map_err : goal.returns-in_err-map_err
returns-in_err-map_err c =
    let t = c.loop-left.table in
    let u = c.list.new.table in
    let rest = c.in_ok-entry.rest.now in
    let b : Begins c.loop-left.left.now c.in_ok-entry.entry rest = search rules in
    let kept = c.list.ensures b.0 b.2 in
    let fact : Err c.in_err-map_err.field-0.0 ≡ lines_of c.args.width c.args.text.now =
    by_result c.list.result
    (λ x h. let z : ◌≡◌ {A = ℕ} 0 1 = search (rules, h) in absurd (omega arith))
    (λ reason h.
    let e : c.in_err-map_err.field-0.0 ≡ Line c.loop-left.line reason = search (rules, h) in
    ap Err e ∙ going_refused c.loop-left.invariant b.0 rest b.1 reason u (subst (λ (r : Result (Unit {0}) LineReason). KeptAs (fault_in c.args.width b.0 t) b.0 t r u) h kept)) in
    search (rules, fact)

pub loop-left-preserved : goal.loop-left-preserved
loop-left-preserved c =
    let t = c.loop-left.table in
    let u = c.list.new.table in
    let rest = c.in_ok-entry.rest.now in
    let b : Begins c.loop-left.left.now c.in_ok-entry.entry rest = search rules in
    let kept = c.list.ensures b.0 b.2 in
    by_result c.list.result
    (λ x h. going_next c.loop-left.invariant b.0 rest b.1 u (subst (λ (r : Result (Unit {0}) LineReason). KeptAs (fault_in c.args.width b.0 t) b.0 t r u) h kept))
    (λ reason h. let z : ◌≡◌ {A = ℕ} 0 1 = search (rules, h) in absurd (omega arith))

pub returns : goal.returns
returns c =
    let none : length c.loop-left.left.now ≡ 0 = search rules in
    going_done c.loop-left.invariant none
