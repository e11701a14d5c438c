use Rattle.running.proofs.Rules.{rules_agree}
use Rattle.running.proofs.laws.rules_agree.Goals as goal

pub returns : goal.returns
returns c = rules_agree
