use Rattle.std.proofs.Common.{◌+◌, List, ℕ, ◌++◌, ap, ◌∙◌, sym}
use Rattle.std.proofs.lemmas.List.{take_rest}
use Rattle.roster.specs.Spelling.{spell}
use Rattle.roster.proofs.Keeping.{led_never, led_on, led_whole, led_end}
use Rattle.roster.proofs.line.first_line.Goals as goal

pub returns-in-Never : goal.returns-in-Never
returns-in-Never c = led_never c.loop-i.invariant c.loop-i-test.true c.in-Never.ensures

pub of-requires : goal.of-requires
of-requires c =
    let x = led_whole c.loop-i.invariant c.loop-i-test.true c.in-Whole.ensures in
    record { entry = x.0; is = x.1 }

pub returns-in-Whole : goal.returns-in-Whole
returns-in-Whole c =
    let x = led_whole c.loop-i.invariant c.loop-i-test.true c.in-Whole.ensures in
    (x.0, x.2 ∙ ap (λ (rest : List ℕ). spell x.0 ++ rest) (sym (take_rest c.args.text.now (c.loop-i.i + 1))), c.of.ensures x.0 x.1)

pub loop-i-preserved : goal.loop-i-preserved
loop-i-preserved c = led_on c.loop-i.invariant c.loop-i-test.true c.in-On.next c.in-On.ensures

pub returns : goal.returns
returns c = led_end c.loop-i.invariant c.loop-i-test.false
