use Rattle.std.proofs.Common.{◌≡◌, ◌<◌, ◌++◌, length, take, drop, refl, sym, ap, ◌∙◌, arith}
use Rattle.std.proofs.lemmas.List.{take_all, take_at, drop_all, append-nil}
use Rattle.side.specs.Table.{ticked}
use Rattle.side.proofs.Ticks.{ticked_next, kept_ticked}
use Rattle.side.proofs.table.Table.tick.Goals as goal

pub loop-exchange-init : goal.loop-exchange-init
unfolding ticked
loop-exchange-init c = refl

pub loop-exchange-preserved : goal.loop-exchange-preserved
loop-exchange-preserved c =
    let es = c.deref_mut-exchange-items.result.now in
    let items = c.loop-exchange.exchange-items in
    let i : items ≡ ticked (take c.loop-exchange.exchange-index es) ++ drop c.loop-exchange.exchange-index es = c.loop-exchange.invariant in
    let h : c.loop-exchange.exchange-index < length items = omega (arith, c.loop-exchange-test.true, c.loop-exchange.auto.exchange-items) in
    ticked_next es items c.loop-exchange.exchange-index _ c.tick.result i h c.tick.ensures

pub invariant_of-self : goal.invariant_of-self
invariant_of-self c =
    let es = c.deref_mut-exchange-items.result.now in
    let items = c.loop-exchange.exchange-items in
    let n = c.loop-exchange.exchange-index in
    let i : items ≡ ticked (take n es) ++ drop n es = c.loop-exchange.invariant in
    let v : es ≡ c.self.inside.exchanges.items = c.deref_mut-exchange-items.ensures.value in
    let all : items ≡ ticked c.self.inside.exchanges.items = i ∙ ap (λ l. ticked l ++ drop n es) (take_all n es c.loop-exchange-test.false) ∙ ap (λ l. ticked es ++ l) (drop_all n es c.loop-exchange-test.false) ∙ append-nil (ticked es) ∙ ap ticked v in
    let long : length items ≡ c.self.inside.exchanges.len = c.loop-exchange.auto.exchange-items ∙ ap length v ∙ sym c.self.inside.exchanges.ok.0 in
    rw (take_at items (drop (length items) c.self.inside.exchanges.items) c.self.inside.exchanges.len long, all) (kept_ticked c.self.invariant)
