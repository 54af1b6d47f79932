-- No step changes an exchange's id or secret.
use Rattle.std.proofs.Common.{◌≡◌, ℕ, ◌+◌, Bool, true, false, cond, Some, None, Option, refl, ap}
use Rattle.std.specs.Prelude.{nat_le}
use Rattle.papers.specs.declared.Notice.{Notice}
use Rattle.papers.specs.declared.Finding.TheVariants.{CalledOff, Standing}
use Rattle.papers.specs.declared.Finding.{Finding}
use Rattle.papers.specs.declared.Terms.{Terms}
use Rattle.papers.specs.declared.Paper.{Paper}
use Rattle.papers.specs.Encoding.{Bytes}
use Rattle.signing.specs.Scheme.{Scheme}
use Rattle.contract.specs.declared.Contract.{Contract}
use Rattle.exchange.specs.declared.Effect.{Effect}
use Rattle.exchange.specs.declared.Effect.TheVariants.{Nothing}
use Rattle.exchange.specs.declared.State.{State}
use Rattle.exchange.specs.declared.State.TheVariants.{Offered, AskedOff, Said, AskedStands, Accepted, Asked, Bound, Free}
use Rattle.exchange.specs.declared.Exchange.{Exchange}
use Rattle.exchange.specs.Steps.{refuse, go_on, with_state, ended, step_in, step, unless, fault, receive, answered, answered_said, by_secrets, ask_in, ask, tick_in, tick}

pub record Keeps (e d : Exchange) : Type 0 where
  pub id : d.id ≡ e.id
  pub secret : d.secret ≡ e.secret

same : (e : Exchange) → Keeps e e
same e = record { id = refl; secret = refl }

keeps_answered : (m : Terms) (e : Exchange) (n : Notice) (f : Finding) → Keeps e (answered m e n f).0
keeps_answered Terms.Plain e n (CalledOff f) = record { id = refl; secret = refl }
keeps_answered Terms.Plain e n (Standing a) = record { id = refl; secret = refl }

keeps_answered_said : (m : Terms) (e : Exchange) (n : Notice) (f : Finding) → Keeps e (answered_said m e n f).0
keeps_answered_said Terms.Plain e n (CalledOff f) = same e
keeps_answered_said Terms.Plain e n (Standing a) = record { id = refl; secret = refl }

keeps_by_secrets : (m : Terms) (e : Exchange) (c : Contract) (f : Effect) → Keeps e (by_secrets m e c f).0
keeps_by_secrets Terms.Plain e c f = record { id = refl; secret = refl }

keeps_step : (e : Exchange) (s : State) (x : Paper) → Keeps e (step_in e s x).0
keeps_step e Offered (Paper.Acceptance a) = record { id = refl; secret = refl }
keeps_step e (AskedOff w t) (Paper.Notice n) = keeps_answered e.offer.terms e n n.finding
keeps_step e (Said k) (Paper.Secret s) = keeps_by_secrets e.offer.terms e _ _
keeps_step e (AskedStands k t) (Paper.Secret s) = keeps_by_secrets e.offer.terms e _ _
keeps_step e (AskedStands k t) (Paper.Notice n) = keeps_answered_said e.offer.terms e n n.finding
keeps_step e (Accepted k) (Paper.Secret s) = keeps_by_secrets e.offer.terms e _ _
keeps_step e (Asked k t) (Paper.Notice n) = keeps_answered e.offer.terms e n n.finding
keeps_step e Offered x = same e
keeps_step e (AskedOff w t) x = same e
keeps_step e (Said k) x = same e
keeps_step e (AskedStands k t) x = same e
keeps_step e (Accepted k) x = same e
keeps_step e (Asked k t) x = same e
keeps_step e (Bound c) (Paper.Acceptance a) = same e
keeps_step e (Bound c) x = same e
keeps_step e (Free n) (Paper.Acceptance a) = same e
keeps_step e (Free n) x = same e

pub keeps_receive : (S : Scheme) (e : Exchange) (x : Paper) → Keeps e (receive S e x).0
unfolding receive step
keeps_receive S e x = go (fault S e x)
  where
    go : (o : Option ℕ) → Keeps e (unless S o e x).0
    go None = keeps_step e e.state x
    go (Some n) = same e

module _ (S : Scheme) (sign : Bytes → Bytes) where
  keeps_test : (b : Bool) (e : Exchange) (s : State) (f : Effect) → Keeps e (cond b (go_on e s f) (refuse e 3)).0
  keeps_test true e s f = record { id = refl; secret = refl }
  keeps_test false e s f = same e

  keeps_ask_in : (e : Exchange) (s : State) → Keeps e (ask_in S sign e s).0
  keeps_ask_in e Offered = keeps_test _ e _ _
  keeps_ask_in e (AskedOff w t) = record { id = refl; secret = refl }
  keeps_ask_in e (Said a) = keeps_test _ e _ _
  keeps_ask_in e (AskedStands q t) = record { id = refl; secret = refl }
  keeps_ask_in e (Accepted a) = keeps_test _ e _ _
  keeps_ask_in e (Asked q t) = record { id = refl; secret = refl }
  keeps_ask_in e (Bound c) = same e
  keeps_ask_in e (Free n) = same e

  pub keeps_ask : (e : Exchange) → Keeps e (ask S sign e).0
  unfolding ask
  keeps_ask e = keeps_ask_in e e.state

-- a tick keeps besides whether it has ended
pub record Ticks (e d : Exchange) : Type 0 where
  pub id : d.id ≡ e.id
  pub secret : d.secret ≡ e.secret
  pub ended : ended d.state ≡ ended e.state

pub keeps_tick : (e : Exchange) → Ticks e (tick e).0
unfolding tick
keeps_tick e = go e.state refl
  where
    waits : (b : Bool) (s r : State) (f : Effect) → ended s ≡ ended e.state → ended r ≡ ended e.state → Ticks e (cond {A = Exchange × Effect} b (with_state e s, f) (with_state e r, Nothing)).0
    waits true s r f p q = record { id = refl; secret = refl; ended = p }
    waits false s r f p q = record { id = refl; secret = refl; ended = q }

    go : (s : State) → s ≡ e.state → Ticks e (tick_in e s).0
    go Offered p = record { id = refl; secret = refl; ended = refl }
    go (AskedOff w t) p = waits (nat_le 63 t) (AskedOff w 0) (AskedOff w (t + 1)) _ (ap ended p) (ap ended p)
    go (Said a) p = record { id = refl; secret = refl; ended = refl }
    go (AskedStands q t) p = waits (nat_le 63 t) (AskedStands q 0) (AskedStands q (t + 1)) _ (ap ended p) (ap ended p)
    go (Accepted a) p = record { id = refl; secret = refl; ended = refl }
    go (Asked q t) p = waits (nat_le 63 t) (Asked q 0) (Asked q (t + 1)) _ (ap ended p) (ap ended p)
    go (Bound c) p = record { id = refl; secret = refl; ended = refl }
    go (Free n) p = record { id = refl; secret = refl; ended = refl }
