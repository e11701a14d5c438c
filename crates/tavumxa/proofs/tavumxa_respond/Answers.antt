-- The answer and the buffer as `respond_into` gives them, handed over.
use Rattle.std.proofs.Common.{ap}
use Rattle.tavumxa.specs.Handed.{handed}
use Rattle.tavumxa.proofs.tavumxa_respond.Goals as goal

pub returns-in-Some-clause-printed : goal.returns-in-Some-clause-printed
returns-in-Some-clause-printed c = ap (handed c.args.size.now) c.in-Some.ensures.printed
