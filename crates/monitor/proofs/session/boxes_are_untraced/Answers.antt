use Rattle.monitor.proofs.Soundness.{boxes_are_untraced}
use Rattle.monitor.proofs.session.boxes_are_untraced.Goals as goal

pub returns : goal.returns
returns c = boxes_are_untraced
