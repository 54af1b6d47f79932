use Rattle.std.proofs.Common.{◌≡◌, ◌++◌, drop}
use Rattle.side.specs.Table.{tick_posts}
use Rattle.side.proofs.table.Table.tick_posts.Given as goal

abbrev pub invariant-loop-exchange : goal.invariant-loop-exchange
invariant-loop-exchange l = (l.posts.items ++ tick_posts (drop l.exchange-index l.exchange-items) ≡ tick_posts l.exchange-items)
