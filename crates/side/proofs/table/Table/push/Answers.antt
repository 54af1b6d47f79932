use Rattle.std.proofs.Common.{◌≡◌, ◌+◌, None, Some, false, length, ap, ◌∙◌, arith}
use Rattle.std.specs.Map as map
use Rattle.std.specs.BTreeMap.{is_at}
use Rattle.std.specs.Ordering.{nat_cmp}
use Rattle.std.specs.Cmp.Lexicographic.{slice_cmp}
use Rattle.side.specs.Table.{lookup, uses}
use Rattle.side.proofs.Places.{kept_places, kept_drawn, kept_as, kept_pushed, counted_all}
use Rattle.side.proofs.table.Table.push.Goals as goal

pub invariant_of-self-in_err-insert-2 : goal.invariant_of-self-in_err-insert-2
invariant_of-self-in_err-insert-2 c =
    let es = c.self.inside.exchanges.items in
    let free : lookup es c.args.exchange.id ≡ None = ap (λ l. lookup l c.args.exchange.id) c.self.view_is ∙ c.requires.free in
    let unchanged = c.in_err-insert-2.ensures.err in
    kept_as (kept_places c.self.invariant c.args.exchange.id _ c.insert.new.self free c.in_ok-insert.ensures.updates) c.insert-2.new.self (λ q. ap (λ l. map.lookup (is_at (slice_cmp nat_cmp q)) l) unchanged)

pub invariant_of-self-in_err-push : goal.invariant_of-self-in_err-push
invariant_of-self-in_err-push c =
    let es = c.self.inside.exchanges.items in
    let free : lookup es c.args.exchange.id ≡ None = ap (λ l. lookup l c.args.exchange.id) c.self.view_is ∙ c.requires.free in
    let undrawn : uses es c.args.exchange.secret ≡ false = ap (λ l. uses l c.args.exchange.secret) c.self.view_is ∙ c.requires.undrawn in
    rw c.in_err-push.ensures.items (kept_drawn (kept_places c.self.invariant c.args.exchange.id _ c.insert.new.self free c.in_ok-insert.ensures.updates) c.args.exchange.secret _ c.insert-2.new.self undrawn c.in_ok-insert-2.ensures.updates)

pub overflow_add-self : goal.overflow_add-self
overflow_add-self c =
    let all = counted_all c.self.inside.exchanges.items in
    grind (arith, all, c.going_on.ensures, c.self.invariant.counted, c.self.inside.exchanges.small, c.self.inside.exchanges.ok)

pub invariant_of-self-2 : goal.invariant_of-self-2
invariant_of-self-2 c =
    let es = c.self.inside.exchanges.items in
    let free : lookup es c.args.exchange.id ≡ None = ap (λ l. lookup l c.args.exchange.id) c.self.view_is ∙ c.requires.free in
    let undrawn : uses es c.args.exchange.secret ≡ false = ap (λ l. uses l c.args.exchange.secret) c.self.view_is ∙ c.requires.undrawn in
    let here : c.len-place.result ≡ length es = c.len-place.ensures ∙ c.self.inside.exchanges.ok.0 in
    let u = c.in_ok-insert.ensures.updates in
    let d = c.in_ok-insert-2.ensures.updates in
    rw c.in_ok-push.ensures.items (kept_pushed (kept_drawn (kept_places c.self.invariant c.args.exchange.id _ c.insert.new.self free u) c.args.exchange.secret _ c.insert-2.new.self undrawn d) c.args.exchange _ (u.1 ∙ ap Some here) (d.1 ∙ ap Some here) (ap (λ n. c.self.inside.running + n) c.going_on.ensures))
