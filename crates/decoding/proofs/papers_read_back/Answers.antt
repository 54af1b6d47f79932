use Rattle.decoding.proofs.Back.{back}
use Rattle.decoding.proofs.papers_read_back.Goals as goal

pub returns : goal.returns
returns c = back
