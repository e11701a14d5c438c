use Rattle.std.proofs.Common.{ap, arith}
use Rattle.std.proofs.lemmas.List.{take_rest}
use Rattle.console.specs.Writing.{ends_in}
use Rattle.console.proofs.Following.{ends_less}
use Rattle.console.proofs.buffered.answer_input.Goals as goal

pub write_answers-requires : goal.write_answers-requires
write_answers-requires c =
    let input = c.args.input.now in
    let size = c.roster_size-size.result in
    let less = ends_less size input in
    let same = ap ends_in (take_rest input size) in
    omega (arith, c.requires)
