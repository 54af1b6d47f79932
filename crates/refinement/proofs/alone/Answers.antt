use Rattle.refinement.proofs.Lists.{alone}
use Rattle.refinement.proofs.alone.Goals as goal

pub returns : goal.returns
returns c = alone
