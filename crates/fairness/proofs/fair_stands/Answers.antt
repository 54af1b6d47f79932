use Rattle.fairness.proofs.Whole.{main}
use Rattle.fairness.proofs.fair_stands.Goals as goal

pub returns : goal.returns
returns c = main
