use Rattle.std.proofs.Common.{ap, arith}
use Rattle.console.specs.Writing.{room_for}
use Rattle.console.proofs.Buffers.{first_of}
use Rattle.console.proofs.buffered.room_for.Goals as goal

pub returns : goal.returns
returns c =
    let same = ap room_for (first_of c.args.input.now c.min.result 65536 c.min.ensures) in
    omega (arith, c.ended_lines.ensures.0)
