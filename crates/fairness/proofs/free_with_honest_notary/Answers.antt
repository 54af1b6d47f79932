use Rattle.fairness.proofs.Whole.{main}
use Rattle.fairness.proofs.free_with_honest_notary.Goals as goal

pub returns : goal.returns
returns c = λ S L w r p k e here. ((main S L w r).each p k e here).free_honest
