use Rattle.std.proofs.Common.{◌^◌, ◌<◌, sym, ◌∙◌, ap, decimal, arith, w32, SFits, to_z, of_z, rules}
use Rattle.std.specs.Fmt.{signed_decimal}
use Rattle.std.proofs.lemmas.Int.{to_z-of_z}
use Rattle.console.proofs.Printed.{formatted, as_formatted, line_parts}
use Rattle.console.proofs.printing.line_of.Goals as goal

pub returns : goal.returns
returns c =
    let n = c.args.reply.number in
    let r = c.args.reply.row in
    let b = c.args.reply.byte in
    let v = c.args.reply.value in
    let nf : n < 2 ^ 64 = search rules in
    let rf : r < 2 ^ 64 = search rules in
    let bf : b < 2 ^ 64 = search rules in
    let vf : SFits w32 v = search rules in
    rw (
      c.push-4.ensures.ascii (omega arith),
      c.push_value.ensures.text,
      c.push-3.ensures.ascii (omega arith),
      c.push_field-3.ensures.text,
      c.push-2.ensures.ascii (omega arith),
      c.push_field-2.ensures.text,
      c.push.ensures.ascii (omega arith),
      c.push_field.ensures.text,
      c.from.ensures,
      c.new-line.ensures,
    ) (line_parts (decimal n) (decimal r) (decimal b) (signed_decimal (to_z w32 (of_z w32 v))) ∙ (ap (formatted n r b) (to_z-of_z w32 v vf) ∙ sym (as_formatted n r b v nf rf bf vf)))
