use Rattle.std.proofs.Common.{refl}
use Rattle.side.specs.Table.{open_count}
use Rattle.side.proofs.table.Table.new.Goals as goal

pub invariant_of-result : goal.invariant_of-result
unfolding open_count
invariant_of-result c = rw c.new.ensures.items (record { placed = λ i e h. cc; known = λ i e h. cc; counted = refl })
