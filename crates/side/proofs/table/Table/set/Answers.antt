use Rattle.std.proofs.Common.{◌≡◌, Some, sym, ap, ◌∙◌, arith}
use Rattle.std.specs.Prelude.{slice_get}
use Rattle.std.proofs.lemmas.Option.{slice_get_within}
use Rattle.side.proofs.Places.{one_place, stored_at, kept_set, counted_store, counted_all}
use Rattle.side.proofs.table.Table.set.Goals as goal

pub overflow_add-self : goal.overflow_add-self
overflow_add-self c =
    let all = counted_all c.self.inside.exchanges.items in
    grind (arith, all, c.going_on.ensures, c.self.invariant.counted, c.self.inside.exchanges.small, c.self.inside.exchanges.ok)

pub overflow_sub-self : goal.overflow_sub-self
overflow_sub-self c =
    let es = c.self.inside.exchanges.items in
    let here : slice_get es c.args.place ≡ Some c.args.was.now = ap (λ l. slice_get l c.args.place) c.self.view_is ∙ c.requires.here in
    grind (arith, counted_store es c.args.place c.args.was.now c.args.next here, c.going_on.ensures, c.going_on-2.ensures, c.self.invariant.counted)

pub index_mut-requires : goal.index_mut-requires
index_mut-requires c =
    let es = c.self.inside.exchanges.items in
    let here : slice_get es c.args.place ≡ Some c.args.was.now = ap (λ l. slice_get l c.args.place) c.self.view_is ∙ c.requires.here in
    let within = slice_get_within es c.args.place c.args.was.now here in
    omega (arith, within, c.self.inside.exchanges.ok.0)

pub invariant_of-self : goal.invariant_of-self
invariant_of-self c =
    let es = c.self.inside.exchanges.items in
    let here : slice_get es c.args.place ≡ Some c.args.was.now = ap (λ l. slice_get l c.args.place) c.self.view_is ∙ c.requires.here in
    kept_set c.self.invariant c.args.place c.args.was.now c.args.next _ here c.requires.id c.requires.secret
    (grind (arith, counted_store es c.args.place c.args.was.now c.args.next here, c.going_on.ensures, c.going_on-2.ensures, c.self.invariant.counted))

pub returns : goal.returns
returns c =
    let es = c.self.inside.exchanges.items in
    let here : slice_get es c.args.place ≡ Some c.args.was.now = ap (λ l. slice_get l c.args.place) c.self.view_is ∙ c.requires.here in
    rw (← c.self.view_is) (stored_at es c.args.next.id c.args.place c.args.was.now c.args.next here (sym c.requires.id) (λ j x g q. one_place c.self.invariant c.args.place j c.args.was.now x here g (q ∙ c.requires.id)))
