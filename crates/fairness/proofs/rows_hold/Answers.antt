use Rattle.fairness.proofs.Rows.{rows_hold}
use Rattle.fairness.proofs.rows_hold.Goals as goal

pub returns : goal.returns
returns c = rows_hold
