use Rattle.std.proofs.Common.{sym, ◌∙◌, inl, inr, arith}
use Rattle.std.proofs.lemmas.Bool.{cases_Bool}
use Rattle.std.proofs.lemmas.Grind.{common_steps}
use Rattle.std.proofs.lemmas.Option.{gets}
use Rattle.std.proofs.lemmas.Slice.Eq.{bytes_eq-Decides}
use Rattle.side.proofs.Places.{undrawn, undrawn_at}
use Rattle.side.proofs.table.Table.uses.Goals as goal

pub returns-in_default : goal.returns-in_default
returns-in_default c =
    let v = c.in_default.ensures.value in
    rw (← c.self.view_is) (sym (undrawn c.self.invariant c.args.secret.now (λ i e g h q. cc)))

pub returns-in-Some-get : goal.returns-in-Some-get
returns-in-Some-get c =
    let v = c.in-Some.ensures.value in
    let l = c.in-Some-get.ensures.lookup in
    let d = c.deref.ensures.value in
    rw (← c.self.view_is) (elim (cases_Bool c.eq.result) [
      | inl t ↦ t ∙ sym (undrawn_at c.self.inside.exchanges.items c.args.secret.now c.in-Some.place.now c.in-Some-get.exchange.now (grind (arith, common_steps, gets, l, d)) (grind (arith, bytes_eq-Decides, c.eq.ensures)))
      | inr f ↦ f ∙ sym (undrawn c.self.invariant c.args.secret.now (λ i e g h q. grind (arith, common_steps, gets, bytes_eq-Decides, v, l, d, c.eq.ensures)))
    ])

pub returns-in-None : goal.returns-in-None
returns-in-None c =
    let v = c.in-Some.ensures.value in
    let l = c.in-None.ensures.lookup in
    let d = c.deref.ensures.value in
    rw (← c.self.view_is) (sym (undrawn c.self.invariant c.args.secret.now (λ i e g h q. grind (arith, common_steps, gets, v, l, d))))
