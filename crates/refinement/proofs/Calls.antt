-- Every sequence of calls is a run of the world. Assumes nothing.
use Rattle.std.proofs.Common.{◌≡◌, ℕ, Bool, true, false, cond, not, T, eqb, ◌⊎◌, List, [], ◌∷◌, ◌++◌, Some, None, Ok, Err, Option, Result, sym, refl, ap, ◌∙◌, subst, inl, inr, arith}
use Rattle.std.proofs.lemmas.Bool.{cases_eq, cond_both, eqb-true, eqb-false}
use Rattle.std.proofs.lemmas.Option.{same_Some, none-some}
use Rattle.papers.specs.declared.Party.{Party}
use Rattle.papers.specs.declared.Offer.{Offer}
use Rattle.papers.specs.declared.Paper.{Paper}
use Rattle.papers.specs.Encoding.{Bytes, about}
use Rattle.signing.specs.Scheme.{Scheme}
use Rattle.signing.specs.Checks.{else_fault, and_then, ident}
use Rattle.exchange.specs.declared.Exchange.{Exchange}
use Rattle.exchange.specs.declared.Post.{Post}
use Rattle.exchange.specs.declared.Effect.{Effect}
use Rattle.exchange.specs.declared.Effect.TheVariants.{Send}
use Rattle.exchange.specs.declared.Order.{Order}
use Rattle.exchange.specs.Steps.{Outcome, receive, offer, accept, ask, tick}
use Rattle.notary.specs.declared.Decision.{Decision}
use Rattle.side.specs.declared.Opened.{Opened}
use Rattle.side.specs.Table.{Exchanges, Answer, lookup, store, uses, taken, judged_fault, offer_fault, accept_fault, opens, opening, found, judged, ask_found, side_offer, side_accept, side_ask, side_hears, ticked}
use Rattle.fairness.specs.World.{Setting, Laws, World, start, set, Fresh, Possible, secrets_in, effect_in, after_side, decides, after_decision, Step, offers, accepts, asks, ticks, hears, asked, clock, Run, stay, more, Reach}
use Rattle.fairness.proofs.Basics.{alike, set_here, set_other}
use Rattle.fairness.proofs.Invariant.{Inv}
use Rattle.fairness.proofs.Every.{step_inv, start_inv}
use Rattle.fairness.proofs.Main.{run_inv}
use Rattle.fairness.proofs.Whole.{whole}
use Rattle.refinement.specs.Calls.{at, Shows, key, FreshElsewhere, after_opening, after_order, after_ask, after_hearing, after_message, after_ticks, Played, begin, offered, accepted, asked_to, heard, tick_passed, notary_asked, clock_went, CallsFair}
use Rattle.refinement.proofs.Lists.{Distinct, distinct_none, distinct_head, distinct_push, distinct_store, distinct_ticked, look_none, head_here, head_past, look_stored, look_other, pushed_here, pushed_other, unused, tick_found, look_ticked}

pub joined : (S : Setting) (w v u : World) → Run S w v → Run S v u → Run S w u
joined S w v u r stay = r
joined S w v u r (more {v = x} q s) = more (joined S w v x r q) s

-- nothing is wrong with an order: its secret is a new one
undrawn : (es : Exchanges) (x : Bytes) → else_fault (not (uses es x)) 10 None ≡ None → uses es x ≡ false
undrawn es x h = grind arith

offer_undrawn : (C : Scheme) (sign : Bytes → Bytes) (es : Exchanges) (d : Order) → offer_fault C sign es d ≡ None → uses es d.secret ≡ false
offer_undrawn C sign es d h = grind arith

accept_undrawn : (C : Scheme) (p : ℕ) (es : Exchanges) (o : Offer) (x : Bytes) → accept_fault C p es o x ≡ None → uses es x ≡ false
accept_undrawn C p es o x h = last (judged_fault C p es o) h
  where
    last : (n : Option ℕ) → and_then n (else_fault (not (uses es x)) 10 None) ≡ None → uses es x ≡ false
    last None q = undrawn es x q
    last (Some n) q = cc

module _ (S : Setting) (L : Laws S) where
  -- what holds after any calls
  pub record Sound (t : ℕ → Exchanges) (w : World) : Type 0 where
    pub reached : Reach S w
    pub tables : (p : ℕ) → Shows (t p) (w.sides p)
    pub distinct : (p : ℕ) → Distinct (t p)

  inv : (w : World) → Reach S w → Inv S w
  inv w r = (run_inv S L start w (start_inv S L) r).1

  -- one side's table and its world go on together; the others stay
  pub record Went (t : ℕ → Exchanges) (w v : World) (p : ℕ) (es : Exchanges) : Type 0 where
    pub run : Run S w v
    pub shows : Shows es (v.sides p)
    pub distinct : Distinct es
    pub others : (q : ℕ) → (q ≡ p → ⊥) → (k : Bytes) → v.sides q k ≡ w.sides q k

  went_sound : (t : ℕ → Exchanges) (w v : World) (p : ℕ) (es : Exchanges) → Sound t w → Went t w v p es → Sound (at p es t) v
  went_sound t w v p es s g = record {
    reached = joined S start w v s.reached g.run;
    tables = λ q. cond_both (eqb q p) es (t q) (λ l. Shows l (v.sides q)) (λ h k. subst (λ z. lookup es k ≡ v.sides z k) (sym (eqb-true q p h)) (g.shows k)) (λ h k. s.tables q k ∙ sym (g.others q (eqb-false q p h) k));
    distinct = λ q. cond_both (eqb q p) es (t q) Distinct (λ _. g.distinct) (λ _. s.distinct q);
  }

  nothing : (t : ℕ → Exchanges) (w : World) (p : ℕ) → Sound t w → Went t w w p (t p)
  nothing t w p s = record { run = stay; shows = s.tables p; distinct = s.distinct p; others = λ q n k. refl }

  -- the exchange d is put at k, in the table and in the world
  put : (t : ℕ → Exchanges) (w : World) (p : ℕ) (k : Bytes) (d : Exchange) (f : Effect) (came : List Bytes) (es : Exchanges) → Sound t w → Step S w (after_side w p k d f came) → lookup es k ≡ Some d → ((j : Bytes) → (k ≡ j → ⊥) → lookup es j ≡ lookup (t p) j) → Distinct es →
      Went t w (after_side w p k d f came) p es
  put t w p k d f came es s st here other distinct = record {
    run = more stay st;
    shows = λ j. go j (alike k j);
    distinct = distinct;
    others = λ q n j. set_other p k d w.sides q j (λ z _. n z);
  }
    where
      go : (j : Bytes) → (k ≡ j) ⊎ (k ≡ j → ⊥) → lookup es j ≡ set p k d w.sides p j
      go j (inl q) = subst (λ z. lookup es z ≡ set p k d w.sides p z) q (here ∙ sym (set_here p k d w.sides))
      go j (inr n) = other j n ∙ s.tables p j ∙ sym (set_other p k d w.sides p j (λ _ z. n (sym z)))

  -- a step in the exchange k
  stepped : (t : ℕ → Exchanges) (w : World) (p : ℕ) (k : Bytes) (e d : Exchange) (f : Effect) (came : List Bytes) → Sound t w → lookup (t p) k ≡ Some e → Step S w (after_side w p k d f came) → Went t w (after_side w p k d f came) p (store (t p) k d)
  stepped t w p k e d f came s h st =
      let id : d.id ≡ k = ((step_inv S L w (after_side w p k d f came) (inv w s.reached) st).1.good p k d (set_here p k d w.sides)).id in
      put t w p k d f came (store (t p) k d) s st (look_stored (t p) k e d h id) (λ j n. look_other (t p) k j d id n) (distinct_store (t p) k d (s.distinct p) id)

  -- ---- a new exchange
  fresh_in : (t : ℕ → Exchanges) (w : World) (p : ℕ) (x : Bytes) → Sound t w → uses (t p) x ≡ false → FreshElsewhere S w p x → Fresh S w x
  fresh_in t w p x s u f = (λ q k e h z. go q k e h z (cases_eq q p), f.1)
    where
      go : (q : ℕ) (k : Bytes) (e : Exchange) → w.sides q k ≡ Some e → e.secret ≡ x → (q ≡ p) ⊎ (q ≡ p → ⊥) → ⊥
      go q k e h z (inl i) = unused (t p) x u k e (s.tables p k ∙ subst (λ j. w.sides j k ≡ Some e) i h) z
      go q k e h z (inr n) = f.0 q k e n h z

  opened_well : (t : ℕ → Exchanges) (w : World) (p : ℕ) (r : Result (Exchange × Post) ℕ) → Sound t w →
      ((e : Exchange) (m : Post) → r ≡ Ok (e, m) → w.sides p e.id ≡ None → Step S w (after_side w p e.id e (Send m) [])) → Went t w (after_opening S w p (t p) r) p (opens (t p) r).0
  opened_well t w p (Err n) s st = nothing t w p s
  opened_well t w p (Ok o) s st = by_taken (taken (t p) o.0.id) refl
    where
      free : taken (t p) o.0.id ≡ false → lookup (t p) o.0.id ≡ None
      free h = grind arith

      -- the new exchange, or all as it was
      New : Bool → Type 0
      New used = Went t w (cond used w (after_side w p o.0.id o.0 (Send o.1) [])) p (cond {A = Answer Opened} used (t p, Err 10) (t p ++ (o.0 ∷ []), Ok (record { id = o.0.id; post = o.1 }))).0

      by_taken : (used : Bool) → taken (t p) o.0.id ≡ used → New used
      by_taken true h = nothing t w p s
      by_taken false h =
          put t w p o.0.id o.0 (Send o.1) [] (t p ++ (o.0 ∷ [])) s (st o.0 o.1 refl (sym (s.tables p o.0.id) ∙ free h)) (pushed_here (t p) o.0 (free h)) (λ j n. pushed_other (t p) o.0 j n)
          (distinct_push (t p) o.0 (s.distinct p) (free h))

  ordered_well : (t : ℕ → Exchanges) (w : World) (p : ℕ) (n : Option ℕ) (r : Result (Exchange × Post) ℕ) → Sound t w →
      (n ≡ None → (e : Exchange) (m : Post) → r ≡ Ok (e, m) → w.sides p e.id ≡ None → Step S w (after_side w p e.id e (Send m) [])) → Went t w (after_order S w p (t p) n r) p (opening (t p) n r).0
  ordered_well t w p (Some n) r s st = nothing t w p s
  ordered_well t w p None r s st = opened_well t w p r s (st refl)

  -- ---- asking
  ask_well : (t : ℕ → Exchanges) (w : World) (p : ℕ) (k : Bytes) → T (S.honest (Party.Side p)) → Sound t w → (m : Option Exchange) → lookup (t p) k ≡ m → Went t w (after_ask S w p k m) p (ask_found S.scheme (S.sign (Party.Side p)) (t p) k m).0
  ask_well t w p k hon s None h = nothing t w p s
  ask_well t w p k hon s (Some e) h =
      let d : Outcome = ask S.scheme (S.sign (Party.Side p)) e in
      stepped t w p k e d.0 (effect_in d.1) [] s h (asks p k e hon (sym (s.tables p k) ∙ h))

  -- ---- a message
  hear_well : (t : ℕ → Exchanges) (w : World) (p : ℕ) (k : Bytes) (x : Paper) (n : Option ℕ) → T (S.honest (Party.Side p)) → Possible S w x → Sound t w → (m : Option Exchange) → lookup (t p) k ≡ m → Went t w (after_hearing S w p k x m) p (found S.scheme (t p) k x n m).0
  hear_well t w p k x n hon pos s (Some e) h =
      let d : Outcome = receive S.scheme e x in stepped t w p k e d.0 (effect_in d.1) (secrets_in x) s h (hears p k e x hon (sym (s.tables p k) ∙ h) pos)
  hear_well t w p k x None hon pos s None h = nothing t w p s
  hear_well t w p k x (Some n) hon pos s None h = nothing t w p s

  judge_well : (t : ℕ → Exchanges) (w : World) (p : ℕ) (k : Bytes) (n : Option ℕ) → Sound t w → Went t w w p (judged S.scheme (t p) k n).0
  judge_well t w p k None s = nothing t w p s
  judge_well t w p k (Some n) s = nothing t w p s

  message_well : (t : ℕ → Exchanges) (w : World) (p : ℕ) (x : Paper) → T (S.honest (Party.Side p)) → Possible S w x → Sound t w → Went t w (after_message S w p (t p) x (key (ident S.scheme) x)) p (side_hears S.scheme p (t p) x).0
  unfolding side_hears
  message_well t w p (Paper.Offer o) hon pos s = judge_well t w p (ident S.scheme o) _ s
  message_well t w p (Paper.Acceptance a) hon pos s = hear_well t w p (ident S.scheme a.offer) (Paper.Acceptance a) _ hon pos s _ refl
  message_well t w p (Paper.Secret x) hon pos s = hear_well t w p x.offer (Paper.Secret x) (Some 5) hon pos s _ refl
  message_well t w p (Paper.Off f) hon pos s = hear_well t w p (ident S.scheme f.offer) (Paper.Off f) _ hon pos s _ refl
  message_well t w p (Paper.Notice n) hon pos s = hear_well t w p (ident S.scheme (about n.finding)) (Paper.Notice n) _ hon pos s _ refl
  message_well t w p (Paper.Refusal r) hon pos s = hear_well t w p r.offer (Paper.Refusal r) (Some 5) hon pos s _ refl
  message_well t w p (Paper.Question q) hon pos s = hear_well t w p (ident S.scheme q.acceptance.offer) (Paper.Question q) _ hon pos s _ refl

  -- ---- a tick, exchange after exchange
  pub record Ticked (w v : World) (p : ℕ) (es : Exchanges) : Type 0 where
    pub run : Run S w v
    pub here : (k : Bytes) (e : Exchange) → lookup es k ≡ Some e → v.sides p k ≡ Some (tick e).0
    pub past : (k : Bytes) → lookup es k ≡ None → v.sides p k ≡ w.sides p k
    pub others : (q : ℕ) → (q ≡ p → ⊥) → (k : Bytes) → v.sides q k ≡ w.sides q k

  tick_all : (p : ℕ) → T (S.honest (Party.Side p)) → (es : Exchanges) (w : World) → Distinct es → ((k : Bytes) (e : Exchange) → lookup es k ≡ Some e → w.sides p k ≡ Some e) → Ticked w (after_ticks S w p es) p es
  unfolding after_ticks lookup
  tick_all p hon [] w d there = record { run = stay; here = λ k e h. absurd (none-some _ h); past = λ k h. refl; others = λ q n k. refl }
  tick_all p hon (e ∷ es) w d there = all (tick_all p hon es w₁ apart.1 (λ k c h. unmoved k (other k c h) ∙ there k c (head_past e es k (other k c h) ∙ h)))
    where
      w₁ : World
      w₁ = after_side w p e.id (tick e).0 (tick e).1 []

      v : World
      v = after_ticks S w₁ p es

      apart : (lookup es e.id ≡ None) × Distinct es
      apart = distinct_head e es d

      unmoved : (k : Bytes) → (e.id ≡ k → ⊥) → w₁.sides p k ≡ w.sides p k
      unmoved k n = set_other p e.id (tick e).0 w.sides p k (λ _ z. n (sym z))

      away : (k : Bytes) → lookup (e ∷ es) k ≡ None → e.id ≡ k → ⊥
      away k h q = none-some _ (sym h ∙ (head_here e es k q))

      -- another one's id is not this one's
      other : (k : Bytes) (c : Exchange) → lookup es k ≡ Some c → e.id ≡ k → ⊥
      other k c h q = none-some _ (sym apart.0 ∙ (subst (λ j. lookup es j ≡ Some c) (sym q) h))

      here : Ticked w₁ v p es → (k : Bytes) (c : Exchange) → lookup (e ∷ es) k ≡ Some c → v.sides p k ≡ Some (tick c).0
      here rest k c h = go (alike e.id k)
        where
          go : (e.id ≡ k) ⊎ (e.id ≡ k → ⊥) → v.sides p k ≡ Some (tick c).0
          go (inl q) = subst (λ z. v.sides p k ≡ Some (tick z).0) (same_Some _ _ (sym (head_here e es k q) ∙ h)) (subst (λ j. v.sides p j ≡ Some (tick e).0) q (rest.past e.id apart.0 ∙ set_here p e.id (tick e).0 w.sides))
          go (inr n) = rest.here k c (sym (head_past e es k n) ∙ h)

      all : Ticked w₁ v p es → Ticked w v p (e ∷ es)
      all rest = record {
        run = joined S w w₁ v (more stay (ticks p e.id e hon (there e.id e (head_here e es e.id refl)))) rest.run;
        here = here rest;
        past = λ k h. rest.past k (sym (head_past e es k (away k h)) ∙ h) ∙ unmoved k (away k h);
        others = λ q n k. rest.others q n k ∙ set_other p e.id (tick e).0 w.sides q k (λ z _. n z);
      }

  ticks_well : (t : ℕ → Exchanges) (w : World) (p : ℕ) → T (S.honest (Party.Side p)) → Sound t w → Went t w (after_ticks S w p (t p)) p (ticked (t p))
  ticks_well t w p hon s = record { run = all.run; shows = λ k. look_ticked (t p) k ∙ go k (lookup (t p) k) refl; distinct = distinct_ticked (t p) (s.distinct p); others = all.others }
    where
      all : Ticked w (after_ticks S w p (t p)) p (t p)
      all = tick_all p hon (t p) w (s.distinct p) (λ k e h. sym (s.tables p k) ∙ h)

      go : (k : Bytes) (m : Option Exchange) → lookup (t p) k ≡ m → tick_found m ≡ (after_ticks S w p (t p)).sides p k
      go k None h = sym (all.past k h ∙ sym (s.tables p k) ∙ h)
      go k (Some e) h = sym (all.here k e h)

  -- a step that no side takes
  aside : (t : ℕ → Exchanges) (w v : World) → Sound t w → Step S w v → v.sides ≡ w.sides → Sound t v
  aside t w v s st q = record { reached = more s.reached st; tables = λ p k. s.tables p k ∙ sym (ap (λ f. f p k) q); distinct = s.distinct }

  decision_sides : (w : World) (n : ℕ) (d : Result Decision ℕ) → (after_decision S w n d).sides ≡ w.sides
  decision_sides w n (Ok d) = refl
  decision_sides w n (Err k) = refl

  -- ---- any sequence
  pub played : (t : ℕ → Exchanges) (w : World) → Played S t w → Sound t w
  unfolding side_offer side_accept side_ask
  played t w begin = record { reached = stay; tables = λ p k. look_none k; distinct = λ p. distinct_none }
  played t w (offered {t = t₀} {w = w₀} x d hon z f) =
      let s = played t₀ w₀ x in
      went_sound t₀ w₀ w d.first _ s (ordered_well t₀ w₀ d.first _ (offer S.scheme (S.sign (Party.Side d.first)) d) s (λ n e m q h. offers d e m hon z (fresh_in t₀ w₀ d.first d.secret s (offer_undrawn S.scheme (S.sign (Party.Side d.first)) (t₀ d.first) d n) f) q h))
  played t w (accepted {t = t₀} {w = w₀} x p o y hon z b size f) =
      let s = played t₀ w₀ x in
      went_sound t₀ w₀ w p _ s (ordered_well t₀ w₀ p _ (accept S.scheme (S.sign (Party.Side p)) p o y) s (λ n e m q h. accepts p o y e m hon z b size (fresh_in t₀ w₀ p y s (accept_undrawn S.scheme p (t₀ p) o y n) f) q h))
  played t w (asked_to {t = t₀} {w = w₀} x p k hon) = let s = played t₀ w₀ x in went_sound t₀ w₀ w p _ s (ask_well t₀ w₀ p k hon s (lookup (t₀ p) k) refl)
  played t w (heard {t = t₀} {w = w₀} x p y hon pos) = let s = played t₀ w₀ x in went_sound t₀ w₀ w p _ s (message_well t₀ w₀ p y hon pos s)
  played t w (tick_passed {t = t₀} {w = w₀} x p hon) = let s = played t₀ w₀ x in went_sound t₀ w₀ w p _ s (ticks_well t₀ w₀ p hon s)
  played t w (notary_asked {w = w₀} x n room y hon pos) = let s = played t w₀ x in aside t w₀ w s (asked n room y hon pos) (decision_sides w₀ n (decides S w₀ n room y))
  played t w (clock_went {w = w₀} x n c h) = let s = played t w₀ x in aside t w₀ w s (clock n c h) refl

pub calls_fair : CallsFair
calls_fair S L t w x =
    let s = played S L t w x in
    record { reached = s.reached; tables = s.tables; whole = whole S L w (run_inv S L start w (start_inv S L) s.reached).1 }
