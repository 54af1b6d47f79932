use Rattle.std.proofs.Common.{sym, arith}
use Rattle.std.proofs.lemmas.Grind.{common_steps}
use Rattle.std.proofs.lemmas.Option.{gets}
use Rattle.std.proofs.lemmas.Slice.Eq.{bytes_eq-Decides}
use Rattle.side.proofs.Places.{missed, looked}
use Rattle.side.proofs.table.Table.find.Goals as goal

pub returns-in_err-place : goal.returns-in_err-place
returns-in_err-place c =
    let v = c.in_err-place.ensures.value in
    rw c.from_residual.ensures (rw (← c.self.view_is) (missed c.self.invariant c.args.id.now (λ i e g h q. cc)))

pub returns-in_err-exchange : goal.returns-in_err-exchange
returns-in_err-exchange c =
    let v = c.in_ok-place.ensures.value in
    let l = c.in_err-exchange.ensures.lookup in
    let d = c.deref.ensures.value in
    rw c.from_residual-in_err-exchange.ensures (rw (← c.self.view_is) (missed c.self.invariant c.args.id.now (λ i e g h q. grind (arith, common_steps, gets, v, d))))

pub returns-then-eq : goal.returns-then-eq
returns-then-eq c =
    let v = c.in_ok-place.ensures.value in
    let l = c.in_ok-exchange.ensures.lookup in
    let d = c.deref.ensures.value in
    rw (← c.self.view_is) (looked c.self.invariant c.args.id.now _ _ (sym v) (grind (arith, common_steps, gets, l, d)) (grind (arith, bytes_eq-Decides, c.if-eq.ensures)))

pub returns-else-eq : goal.returns-else-eq
returns-else-eq c =
    let v = c.in_ok-place.ensures.value in
    let l = c.in_ok-exchange.ensures.lookup in
    let d = c.deref.ensures.value in
    rw (← c.self.view_is) (missed c.self.invariant c.args.id.now (λ i e g h q. grind (arith, common_steps, gets, bytes_eq-Decides, v, l, d, c.if-eq.ensures)))
