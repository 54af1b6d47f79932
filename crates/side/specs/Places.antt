-- What a side's table keeps beside its exchanges, so that each is found at once. Assumes nothing.
use Rattle.std.specs.Prelude.{◌≡◌, ℕ, Some, slice_get}
use Rattle.std.specs.Ordering.{nat_cmp}
use Rattle.std.specs.Cmp.Lexicographic.{slice_cmp}
use Rattle.std.specs.BTreeMap.{BTreeMap, get}
use Rattle.papers.specs.Encoding.{Bytes}
use Rattle.exchange.specs.declared.Exchange.{Exchange}
use Rattle.side.specs.Table.{Exchanges, lookup, open_count}

-- each exchange's place by its id and by its secret, and how many have not ended
pub record Kept (es : Exchanges) (places drawn : BTreeMap Bytes ℕ) (running : ℕ) : Type 0 where
  pub placed : (i : ℕ) (e : Exchange) → slice_get es i ≡ Some e → get (slice_cmp nat_cmp) places e.id ≡ Some i
  pub known : (i : ℕ) (e : Exchange) → slice_get es i ≡ Some e → get (slice_cmp nat_cmp) drawn e.secret ≡ Some i
  pub counted : running ≡ open_count es

-- this exchange is the one with this id, and stands here
pub record Found (es : Exchanges) (k : Bytes) (i : ℕ) (e : Exchange) : Type 0 where
  pub looked_up : lookup es k ≡ Some e
  pub here : slice_get es i ≡ Some e
  pub named : e.id ≡ k
