use Rattle.std.proofs.Common.{◌+◌, ◌/◌, ◌%◌, [], ◌∷◌, arith}
use Rattle.std.proofs.lemmas.Fmt.{decimal_digit, decimal_step}
use Rattle.std.proofs.lemmas.List.{append_assoc}
use Rattle.console.proofs.printing.push_field.Goals as goal

pub returns-in-0-to-9-clause-text : goal.returns-in-0-to-9-clause-text
returns-in-0-to-9-clause-text c = rw (decimal_digit c.args.number (omega (arith, c.in-0-to-9))) c.push_digit.ensures

pub returns-in-10-to-99-clause-text : goal.returns-in-10-to-99-clause-text
returns-in-10-to-99-clause-text c =
    let n = c.args.number in
    rw (decimal_step n (omega arith) (omega arith), decimal_digit (n / 10) (omega arith), c.push_digit-in-10-to-99-2.ensures, c.push_digit-in-10-to-99.ensures) (append_assoc c.args.line.now.bytes ((48 + n / 10) ∷ []) ((48 + n % 10) ∷ []))
