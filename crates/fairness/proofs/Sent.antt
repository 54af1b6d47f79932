-- Whatever honest code sends, anybody can send on. Assumes nothing.
use Rattle.std.proofs.Common.{◌≡◌, ℕ, ◌+◌, leb, ◌⊎◌, List, [], ◌++◌, length, Some, Ok, sym, refl, ap, ◌∙◌, subst, inl, inr}
use Rattle.std.proofs.lemmas.Option.{same_Some, none-some}
use Rattle.std.proofs.lemmas.Bool.{cond_both}
use Rattle.papers.specs.declared.Party.{Party}
use Rattle.papers.specs.declared.Terms.{Terms}
use Rattle.papers.specs.declared.Offer.{Offer}
use Rattle.papers.specs.declared.Acceptance.{Acceptance}
use Rattle.papers.specs.declared.Secret.{Secret}
use Rattle.papers.specs.declared.Off.{Off}
use Rattle.papers.specs.declared.Finding.{Finding}
use Rattle.papers.specs.declared.Finding.TheVariants.{CalledOff, Standing}
use Rattle.papers.specs.declared.Notice.{Notice}
use Rattle.papers.specs.declared.Question.{Question}
use Rattle.papers.specs.declared.Paper.{Paper}
use Rattle.papers.specs.Encoding.{Bytes, Digest}
use Rattle.signing.specs.Checks.{off_signed, question_signed}
use Rattle.contract.specs.declared.Contract.{Contract}
use Rattle.exchange.specs.declared.State.{State}
use Rattle.exchange.specs.declared.State.TheVariants.{Offered, AskedOff, Said, AskedStands, Accepted, Asked, Bound, Free}
use Rattle.exchange.specs.declared.Exchange.{Exchange}
use Rattle.exchange.specs.declared.Post.{Post}
use Rattle.exchange.specs.declared.Effect.{Effect}
use Rattle.exchange.specs.declared.Effect.TheVariants.{Nothing, Send}
use Rattle.exchange.specs.declared.Order.{Order}
use Rattle.exchange.specs.Steps.{Outcome, with_state, refuse, go_on, me, to_side, to_notary, by_secrets, answered, answered_said, step_in, step, receive, offer, accept, new_wish, new_question, ask_in, ask, tick_in, tick}
use Rattle.fairness.specs.World.{Setting, Laws, In, entry, World, OfferBacked, Possible, secrets_in, effect_in, after_side, offers, accepts, asks, ticks, hears, asked, clock}
use Rattle.fairness.specs.Promise.{sends, SentOn}
use Rattle.fairness.proofs.Basics.{set_here}
use Rattle.fairness.proofs.Backing.{received}
use Rattle.fairness.proofs.Invariant.{Good, Kept, OwnWish, OwnQuestion, Inv, in_state, in_role}
use Rattle.fairness.proofs.Every.{offer_is, accept_is, asked_goal, step_inv}

-- the paper is one that goes with the exchange's state
abbrev Carried : Exchange → Paper → Type 0
Carried e (Paper.Offer o) = e.offer ≡ o
Carried e (Paper.Acceptance a) = e.state ≡ Accepted a
Carried e (Paper.Secret s) = (s.offer ≡ e.id) × (s.secret ≡ e.secret) × Digest s.lock
Carried e (Paper.Off f) = (t : ℕ) × (e.state ≡ AskedOff f t)
Carried e (Paper.Question q) = (t : ℕ) × ((e.state ≡ AskedStands q t) ⊎ (e.state ≡ Asked q t))
Carried e x = ⊥

abbrev Carries : Exchange → Effect → Type 0
Carries e (Send m) = Carried e m.paper
Carries e f = Unit {0}

module _ (S : Setting) (L : Laws S) where
  -- such a paper can be sent on, in the world after the step
  on : (w : World) (p : ℕ) (k : Bytes) (e : Exchange) (m : Post) (heard : List Bytes) → Inv S (after_side w p k e (Send m) heard) → (x : Paper) → m.paper ≡ x → Carried e x → Possible S (after_side w p k e (Send m) heard) x
  on w p k e m heard I x z c = go x z c
    where
      v : World
      v = after_side w p k e (Send m) heard

      g : Good S v p k e
      g = I.good p k e (set_here p k e w.sides)

      asking : (q : Question) → Kept S v e.offer q.acceptance → OwnQuestion S v p q → Possible S v (Paper.Question q)
      asking q kept own = (own.sized, (kept.backed, λ _ _. subst (λ j. In (entry (Party.Side j) (Paper.Question q)) v.log) (sym own.side) own.logged))

      question : (q : Question) (t : ℕ) → (e.state ≡ AskedStands q t) ⊎ (e.state ≡ Asked q t) → Possible S v (Paper.Question q)
      question q t (inl h) = let s = in_state g h in asking q s.1 s.3
      question q t (inr h) = let s = in_state g h in asking q s.1 s.4

      go : (x : Paper) → m.paper ≡ x → Carried e x → Possible S v x
      go (Paper.Offer o) z c = subst (λ y. Possible S v (Paper.Offer y)) c (g.sized, g.backed)
      go (Paper.Acceptance a) z c = let s = in_state g c in (s.1.sized, s.1.backed)
      go (Paper.Secret s) z c = (
        record { offer = ap length c.0 ∙ ap length (g.id ∙ sym g.key) ∙ L.digest_size _; lock = c.2; secret = ap length c.1 ∙ g.secret },
        λ q j d h r. subst (λ y. In s.secret (secrets_in y ++ (heard ++ w.out))) (sym z) (inl refl),
      )
      go (Paper.Off f) z c =
          let s = in_state g c.1 in
          let own : OwnWish S v p e.offer f = s.2 in
          (own.sized, (subst (λ o. OfferBacked S v o) (sym own.offer) g.backed, λ _ _. subst (λ j. In (entry (Party.Side j) (Paper.Off f)) v.log) (sym (ap (λ o. o.first) own.offer ∙ (in_role g s.0).0)) own.logged))
      go (Paper.Question q) z c = question q c.0 c.1
      go x z c = absurd c

  on_effect : (w : World) (p : ℕ) (k : Bytes) (e : Exchange) (f : Effect) (heard : List Bytes) → Inv S (after_side w p k e f heard) → Carries e f → (x : Paper) → sends S f ≡ Some x → Possible S (after_side w p k e f heard) x
  on_effect w p k e (Send m) heard I c x h = subst (Possible S (after_side w p k e (Send m) heard)) (same_Some _ _ h) (on w p k e m heard I m.paper refl c)
  on_effect w p k e f heard I c x h = absurd (none-some _ h)

  module _ (w : World) (I : Inv S w) (p : ℕ) (k : Bytes) (e : Exchange) (here : w.sides p k ≡ Some e) where
    abbrev After : Outcome → Type 0
    After d = Carries d.0 (effect_in d.1)

    -- ---- a message
    quiet_secrets : (m : Terms) (c : Contract) → After (by_secrets m e c Nothing)
    quiet_secrets Terms.Plain c = tt

    told_secrets : (a : Acceptance) (s : Secret) → Digest a.lock → (m : Terms) → After (by_secrets m e (Contract.Secrets a s.secret e.secret) (to_side e.offer.first (Paper.Secret (record { offer = e.id; lock = a.lock; secret = e.secret }))))
    told_secrets a s z Terms.Plain = (refl, refl, z)

    quiet_answer : (m : Terms) (n : Notice) (f : Finding) → After (answered m e n f)
    quiet_answer Terms.Plain n (CalledOff f) = tt
    quiet_answer Terms.Plain n (Standing a) = tt

    quiet_said : (m : Terms) (n : Notice) (f : Finding) → After (answered_said m e n f)
    quiet_said Terms.Plain n (CalledOff f) = tt
    quiet_said Terms.Plain n (Standing a) = tt

    step_carries : (s : State) → e.state ≡ s → (x : Paper) → After (step_in e s x)
    step_carries Offered q (Paper.Acceptance x) = (refl, refl, refl)
    step_carries (AskedOff y t) q (Paper.Notice x) = quiet_answer e.offer.terms x x.finding
    step_carries (Said y) q (Paper.Secret x) = quiet_secrets e.offer.terms _
    step_carries (AskedStands y t) q (Paper.Secret x) = quiet_secrets e.offer.terms _
    step_carries (AskedStands y t) q (Paper.Notice x) = quiet_said e.offer.terms x x.finding
    step_carries (Accepted y) q (Paper.Secret x) = told_secrets y x (in_state (I.good p k e here) q).1.sized.lock e.offer.terms
    step_carries (Asked y t) q (Paper.Notice x) = quiet_answer e.offer.terms x x.finding
    step_carries (Bound y) q (Paper.Secret x) = tt
    step_carries (Free y) q (Paper.Secret x) = tt
    step_carries s q x = tt

    receive_carries : (x : Paper) → After (receive S.scheme e x)
    unfolding step
    receive_carries x = received S.scheme After e x (λ none. step_carries e.state refl x) (λ n. tt)

    -- ---- asking, and a tick
    ask_carries_in : (s : State) → After (ask_in S.scheme (S.sign (Party.Side p)) e s)
    ask_carries_in Offered = let f : Off = new_wish S.scheme (S.sign (Party.Side p)) e.offer in cond_both (off_signed S.scheme f) (go_on e (AskedOff f 0) (to_notary e (Paper.Off f))) (refuse e 3) After (λ _. (0, refl)) (λ _. tt)
    ask_carries_in (AskedOff f t) = (0, refl)
    ask_carries_in (Said a) = let q : Question = new_question S.scheme (S.sign (Party.Side p)) (me e) a in cond_both (question_signed S.scheme q) (go_on e (AskedStands q 0) (to_notary e (Paper.Question q))) (refuse e 3) After (λ _. (0, inl refl)) (λ _. tt)
    ask_carries_in (AskedStands q t) = (0, inl refl)
    ask_carries_in (Accepted a) = let q : Question = new_question S.scheme (S.sign (Party.Side p)) (me e) a in cond_both (question_signed S.scheme q) (go_on e (Asked q 0) (to_notary e (Paper.Question q))) (refuse e 3) After (λ _. (0, inr refl)) (λ _. tt)
    ask_carries_in (Asked q t) = (0, inr refl)
    ask_carries_in s = tt

    abbrev AfterTick : Exchange × Effect → Type 0
    AfterTick d = Carries d.0 d.1

    tick_carries_in : (s : State) → AfterTick (tick_in e s)
    tick_carries_in (AskedOff f t) = cond_both (leb 63 t) (with_state e (AskedOff f 0), to_notary e (Paper.Off f)) (with_state e (AskedOff f (t + 1)), Nothing) AfterTick (λ _. (0, refl)) (λ _. tt)
    tick_carries_in (AskedStands q t) = cond_both (leb 63 t) (with_state e (AskedStands q 0), to_notary e (Paper.Question q)) (with_state e (AskedStands q (t + 1)), Nothing) AfterTick (λ _. (0, inl refl)) (λ _. tt)
    tick_carries_in (Asked q t) = cond_both (leb 63 t) (with_state e (Asked q 0), to_notary e (Paper.Question q)) (with_state e (Asked q (t + 1)), Nothing) AfterTick (λ _. (0, inr refl)) (λ _. tt)
    tick_carries_in s = tt

    ask_carries : After (ask S.scheme (S.sign (Party.Side p)) e)
    unfolding ask
    ask_carries = ask_carries_in e.state

    tick_carries : AfterTick (tick e)
    unfolding tick
    tick_carries = tick_carries_in e.state

  -- ---- new exchanges
  offer_carries : (d : Order) (e : Exchange) (m : Post) → offer S.scheme (S.sign (Party.Side d.first)) d ≡ Ok (e, m) → Carried e m.paper
  offer_carries d e m q = subst (λ (z : Exchange × Post). Carried z.0 z.1.paper) (offer_is S.scheme (S.sign (Party.Side d.first)) d (e, m) q).1 refl

  accept_carries : (p : ℕ) (o : Offer) (x : Bytes) (e : Exchange) (m : Post) → accept S.scheme (S.sign (Party.Side p)) p o x ≡ Ok (e, m) → Carried e m.paper
  accept_carries p o x e m q = subst (λ (z : Exchange × Post). Carried z.0 z.1.paper) (accept_is S.scheme (S.sign (Party.Side p)) p o x (e, m) q).1 refl

  pub sent_on : (w : World) → Inv S w → SentOn S w
  sent_on w I v (offers d e m hon z fresh q free) x h =
      on_effect w d.first e.id e (Send m) [] (step_inv S L w v I (offers d e m hon z fresh q free)).1 (offer_carries d e m q) x h
  sent_on w I v (accepts p o y e m hon z back size fresh q free) x h =
      on_effect w p e.id e (Send m) [] (step_inv S L w v I (accepts p o y e m hon z back size fresh q free)).1 (accept_carries p o y e m q) x h
  sent_on w I v (asks p k e hon here) x h = on_effect w p k _ _ [] (step_inv S L w v I (asks p k e hon here)).1 (ask_carries w I p k e here) x h
  sent_on w I v (ticks p k e hon here) x h = on_effect w p k _ _ [] (step_inv S L w v I (ticks p k e hon here)).1 (tick_carries w I p k e here) x h
  sent_on w I v (hears p k e y hon here pos) x h = on_effect w p k _ _ (secrets_in y) (step_inv S L w v I (hears p k e y hon here pos)).1 (receive_carries w I p k e here y) x h
  sent_on w I v (asked n room y hon pos) x h = (asked_goal S L w I n hon room y pos).1 x h
  sent_on w I v (clock n c q) x h = absurd (none-some _ h)
