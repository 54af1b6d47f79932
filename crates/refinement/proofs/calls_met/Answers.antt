use Rattle.refinement.proofs.Example.{one_asked}
use Rattle.refinement.proofs.calls_met.Goals as goal

pub returns : goal.returns
returns c = one_asked
