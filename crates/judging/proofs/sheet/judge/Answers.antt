use Rattle.sheets.proofs.Walks.{listed}
use Rattle.judging.proofs.Judgements.{judgement}
use Rattle.judging.proofs.sheet.judge.Goals as goal

pub block-requires-clause-program : goal.block-requires-clause-program
block-requires-clause-program g c = rw c.as_slice.ensures.value (listed _ c.args.sheet.now.accepted)

pub returns : goal.returns
returns g c =
    judgement _ _ _ _ _ _ (listed _ c.args.sheet.now.accepted) (rw c.as_slice.ensures.value at c.block.ensures)
