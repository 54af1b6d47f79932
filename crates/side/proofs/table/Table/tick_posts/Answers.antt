use Rattle.std.proofs.Common.{◌≡◌, ◌+◌, ◌++◌, [], drop, inl, inr, sym, ap, ◌∙◌}
use Rattle.std.proofs.lemmas.List.{append-nil, drop_all}
use Rattle.side.specs.Table.{posts_in, tick_posts}
use Rattle.side.proofs.Ticks.{posts_next}
use Rattle.side.proofs.table.Table.tick_posts.Goals as goal
use Rattle.side.proofs.table.Table.tick_posts.Goals.{in-Send+in_ok-push-in-Send, in-Nothing}

pub loop-exchange-preserved : goal.loop-exchange-preserved
loop-exchange-preserved c =
    let es = c.as_slice-exchange-items.result.now in
    let said = c.loop-exchange.posts.items in
    let next = posts_next es c.loop-exchange.exchange-index _ said c.loop-exchange-test.true c.loop-exchange.invariant in
    let more : c.match-effect.posts.items ≡ said ++ posts_in c.tick-effect.result.1 = elim c.match-effect.branch [
      | in-Send+in_ok-push-in-Send w ↦ ap (λ z. z.items) w.posts-is ∙ w.in_ok-push-in-Send.ensures.items ∙ ap (λ f. said ++ posts_in f) (sym w.in-Send.is)
      | in-Nothing w ↦
          let quiet : posts_in c.tick-effect.result.1 ≡ [] = elim w.in-Nothing.is [ inl e ↦ ap posts_in e | inr e ↦ ap posts_in e ] in
          ap (λ z. z.items) w.posts-is ∙ sym (append-nil said) ∙ ap (λ l. said ++ l) (sym quiet)
    ] in
    ap (λ l. l ++ tick_posts (drop (c.loop-exchange.exchange-index + 1) es)) (more ∙ ap (λ r. said ++ posts_in r.1) c.tick-effect.ensures) ∙ next

pub returns : goal.returns
unfolding tick_posts
returns c =
    let es = c.as_slice-exchange-items.result.now in
    sym (append-nil c.loop-exchange.posts.items) ∙ ap (λ l. c.loop-exchange.posts.items ++ tick_posts l) (sym (drop_all c.loop-exchange.exchange-index es c.loop-exchange-test.false)) ∙ c.loop-exchange.invariant ∙ ap tick_posts (c.as_slice-exchange-items.ensures.value ∙ c.self.view_is)
