use Rattle.std.proofs.Common.{◌≡◌, ◌++◌, take, drop}
use Rattle.side.specs.Table.{ticked}
use Rattle.side.proofs.table.Table.tick.Given as goal

abbrev pub invariant-loop-exchange : goal.invariant-loop-exchange
invariant-loop-exchange l = (l.exchange-items ≡ ticked (take l.exchange-index l.initial.exchange-items) ++ drop l.exchange-index l.initial.exchange-items)
