use Rattle.fairness.proofs.Whole.{main}
use Rattle.fairness.proofs.same_answer.Goals as goal

pub returns : goal.returns
returns c = λ S L w r. (main S L w r).steady
