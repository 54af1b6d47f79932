use Rattle.fairness.proofs.Example.{premises_met}
use Rattle.fairness.proofs.premises_met.Goals as goal

pub returns : goal.returns
returns c = premises_met
