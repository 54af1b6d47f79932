-- How an exchange is said to stand. Assumes nothing.
use Rattle.std.specs.Prelude.{ℕ, List, codes}
use Rattle.contract.specs.declared.Contract.{Contract}
use Rattle.exchange.specs.declared.State.{State}
use Rattle.exchange.specs.declared.State.TheVariants.{Offered, AskedOff, Said, AskedStands, Accepted, Asked, Bound, Free}

abbrev pub state_name : State → List ℕ
state_name Offered = codes "has not ended"
state_name (AskedOff w t) = codes "has not ended"
state_name (Said a) = codes "has not ended"
state_name (AskedStands q t) = codes "has not ended"
state_name (Accepted a) = codes "has not ended"
state_name (Asked q t) = codes "has not ended"
state_name (Bound (Contract.Secrets a x y)) = codes "bound, by secrets"
state_name (Bound (Contract.Stands s)) = codes "bound, by Stands"
state_name (Free n) = codes "free"
