use Rattle.std.proofs.Common.{◌≡◌, ℕ, ◌<◌, List, [], ◌++◌, length, take, Some, sym, ap, ◌∙◌, arith}
use Rattle.std.specs.Option.{option_map}
use Rattle.std.proofs.lemmas.List.{append-nil, take_all, nil_from_length}
use Rattle.std.proofs.lemmas.Bool.{ltb-false, eqb-true, eqb-false}
use Rattle.console.specs.Reading.{bytes_in}
use Rattle.console.proofs.Clipping.{one_more, no_place}
use Rattle.console.proofs.digits.decode_sheet.Goals as goal

pub loop-left-preserved-then-not-is_full : goal.loop-left-preserved-then-not-is_full
loop-left-preserved-then-not-is_full c =
    let items = c.loop-left.sheet.items in
    let other = eqb-false (length items) 2049 (sym c.if-not-is_full.ensures.value) in
    let room : length items < 2049 = omega (arith, c.loop-left.invariant.0, other) in (
      omega (arith, c.push.ensures.len),
      c.loop-left.invariant.1
          ∙ one_more 2049 items c.loop-left.left.now c.in_ok-byte.byte (omega (arith, ltb-false)) (sym c.in_ok-byte.ensures) c.push.new.self.items c.push.ensures.items,
    )

pub loop-left-preserved : goal.loop-left-preserved
loop-left-preserved c =
    let items = c.loop-left.sheet.items in
    let full = eqb-true (length items) 2049 (sym c.if-not-is_full.ensures.value) in (
      c.loop-left.invariant.0,
      c.loop-left.invariant.1 ∙ no_place 2049 items c.loop-left.left.now c.in_ok-byte.byte (omega (arith, ltb-false)) (sym c.in_ok-byte.ensures) (omega arith),
    )

pub returns-then-is_empty : goal.returns-then-is_empty
returns-then-is_empty c =
    let items = c.loop-left.sheet.items in
    let left = c.loop-left.left.now in
    let none : left ≡ [] = nil_from_length left (eqb-true (length left) 0 (sym c.if-is_empty.ensures)) in
    let whole : take 2049 (items ++ []) ≡ items = rw append-nil (take_all 2049 items c.loop-left.invariant.0) in
    sym (c.loop-left.invariant.1 ∙ (ap (λ (ds : List ℕ). option_map (λ more. take 2049 (items ++ more)) (bytes_in ds)) none ∙ ap Some whole))
