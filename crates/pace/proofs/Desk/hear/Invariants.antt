use Rattle.std.proofs.Common.{◌≤◌}
use Rattle.pace.proofs.Desk.hear.Given as goal

abbrev pub invariant-loop-number : goal.invariant-loop-number
invariant-loop-number l = l.refused ≤ l.number
