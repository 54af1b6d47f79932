use Rattle.refinement.proofs.Calls.{calls_fair}
use Rattle.refinement.proofs.calls_fair.Goals as goal

pub returns : goal.returns
returns c = calls_fair
