use Rattle.decoding.proofs.Back.{apart}
use Rattle.decoding.proofs.papers_apart.Goals as goal

pub returns : goal.returns
returns c = apart
