-- Any sequence of calls of any number of sides and notaries, with the world that it makes. Assumes nothing.
use Rattle.std.specs.Prelude.{◌≡◌, ℕ, ◌≤◌, Bool, false, cond, T, [], ◌∷◌, Some, None, Ok, Err, Option, Result, ◌==◌, ◌≢◌}
use Rattle.std.specs.Str.{bytes_eq}
use Rattle.papers.specs.declared.Party.{Party}
use Rattle.papers.specs.declared.Offer.{Offer}
use Rattle.papers.specs.declared.Off.{Off}
use Rattle.papers.specs.declared.Paper.{Paper}
use Rattle.papers.specs.Encoding.{Bytes, Digest, OfferSized, about}
use Rattle.signing.specs.Checks.{ident}
use Rattle.exchange.specs.declared.State.TheVariants.{AskedOff}
use Rattle.exchange.specs.declared.Exchange.{Exchange}
use Rattle.exchange.specs.declared.Post.{Post}
use Rattle.exchange.specs.declared.Effect.TheVariants.{Send}
use Rattle.exchange.specs.declared.Order.{Order}
use Rattle.exchange.specs.Steps.{receive, offer, accept, ask, tick}
use Rattle.side.specs.Table.{Exchanges, lookup, store, taken, offer_fault, accept_fault, side_offer, side_accept, side_ask, side_hears, ticked}
use Rattle.fairness.specs.World.{Setting, Laws, In, World, start, OrderSized, OfferBacked, Possible, secrets_in, after_side, after_outcome, decides, after_decision, after_clock, Reach}
use Rattle.fairness.specs.Promise.{Whole}
use Rattle.fairness.specs.Example.{setting}

-- the tables of all sides; one of them changed
abbrev pub at : ℕ → Exchanges → (ℕ → Exchanges) → ℕ → Exchanges
at p es tables q = cond (q == p) es (tables q)

-- a table shows what a side has in the world
abbrev pub Shows : Exchanges → (Bytes → Option Exchange) → Type 0
Shows es m = (k : Bytes) → lookup es k ≡ m k

-- the id by which a message names its exchange; an offer names none
abbrev pub key : (Offer → Bytes) → Paper → Option Bytes
key id (Paper.Offer o) = None
key id (Paper.Acceptance a) = Some (id a.offer)
key id (Paper.Secret s) = Some s.offer
key id (Paper.Off f) = Some (id f.offer)
key id (Paper.Notice n) = Some (id (about n.finding))
key id (Paper.Refusal r) = Some r.offer
key id (Paper.Question q) = Some (id q.acceptance.offer)

module _ (S : Setting) where
  -- FRESH DRAWS, a premise: none that another honest side drew, and none that is out. What it drew itself a side sees and refuses.
  abbrev pub FreshElsewhere : World → ℕ → Bytes → Type 0
  FreshElsewhere w p x = ((q : ℕ) (k : Bytes) (e : Exchange) → (q ≢ p) → w.sides q k ≡ Some e → e.secret ≢ x) × (In x w.out → ⊥)

  -- ---- the world after a call
  abbrev pub after_opening : World → ℕ → Exchanges → Result (Exchange × Post) ℕ → World
  after_opening w p es (Err n) = w
  after_opening w p es (Ok o) = cond (taken es o.0.id) w (after_side w p o.0.id o.0 (Send o.1) [])

  -- an order that is refused before anything is signed changes nothing
  abbrev pub after_order : World → ℕ → Exchanges → Option ℕ → Result (Exchange × Post) ℕ → World
  after_order w p es (Some n) r = w
  after_order w p es None r = after_opening w p es r

  abbrev pub after_ask : World → ℕ → Bytes → Option Exchange → World
  after_ask w p k None = w
  after_ask w p k (Some e) = after_outcome w p k (ask S.scheme (S.sign (Party.Side p)) e) []

  abbrev pub after_hearing : World → ℕ → Bytes → Paper → Option Exchange → World
  after_hearing w p k x None = w
  after_hearing w p k x (Some e) = after_outcome w p k (receive S.scheme e x) (secrets_in x)

  abbrev pub after_message : World → ℕ → Exchanges → Paper → Option Bytes → World
  after_message w p es x None = w
  after_message w p es x (Some k) = after_hearing w p k x (lookup es k)

  -- each exchange ticks, one after the other
  unfoldable pub after_ticks : World → ℕ → Exchanges → World
  after_ticks w p [] = w
  after_ticks w p (e ∷ es) = after_ticks (after_side w p e.id (tick e).0 (tick e).1 []) p es

  -- ---- ANY SEQUENCE OF CALLS
  pub data Played : (ℕ → Exchanges) → World → Type 0 where
    begin : Played (λ p. []) start
    offered : {t : ℕ → Exchanges} {w : World} → Played t w → (d : Order) → T (S.honest (Party.Side d.first)) → OrderSized d → FreshElsewhere w d.first d.secret →
        Played (at d.first (side_offer S.scheme (S.sign (Party.Side d.first)) (t d.first) d).0 t) (after_order w d.first (t d.first) (offer_fault S.scheme (S.sign (Party.Side d.first)) (t d.first) d) (offer S.scheme (S.sign (Party.Side d.first)) d))
    accepted : {t : ℕ → Exchanges} {w : World} → Played t w → (p : ℕ) (o : Offer) (x : Bytes) → T (S.honest (Party.Side p)) → OfferSized o → OfferBacked S w o → Digest x → FreshElsewhere w p x →
        Played (at p (side_accept S.scheme (S.sign (Party.Side p)) p (t p) o x).0 t) (after_order w p (t p) (accept_fault S.scheme p (t p) o x) (accept S.scheme (S.sign (Party.Side p)) p o x))
    asked_to : {t : ℕ → Exchanges} {w : World} → Played t w → (p : ℕ) (k : Bytes) → T (S.honest (Party.Side p)) →
        Played (at p (side_ask S.scheme (S.sign (Party.Side p)) (t p) k).0 t) (after_ask w p k (lookup (t p) k))
    heard : {t : ℕ → Exchanges} {w : World} → Played t w → (p : ℕ) (x : Paper) → T (S.honest (Party.Side p)) → Possible S w x →
        Played (at p (side_hears S.scheme p (t p) x).0 t) (after_message w p (t p) x (key (ident S.scheme) x))
    tick_passed : {t : ℕ → Exchanges} {w : World} → Played t w → (p : ℕ) → T (S.honest (Party.Side p)) → Played (at p (ticked (t p)) t) (after_ticks w p (t p))
    notary_asked : {t : ℕ → Exchanges} {w : World} → Played t w → (n : ℕ) (room : Bool) (x : Paper) → T (S.honest (Party.Notary n)) → Possible S w x → Played t (after_decision S w n (decides S w n room x))
    clock_went : {t : ℕ → Exchanges} {w : World} → Played t w → (n c : ℕ) → w.clocks n ≤ c → Played t (after_clock S w n c)

  -- the tables show a world that the promise is about
  pub record PlayedWell (t : ℕ → Exchanges) (w : World) : Type 0 where
    pub reached : Reach S w
    pub tables : (p : ℕ) → Shows (t p) (w.sides p)
    pub whole : Whole S w

-- WHATEVER IS CALLED, THE PROMISE HOLDS OF WHAT THE TABLES SHOW
abbrev pub CallsFair : Type 0
CallsFair = (S : Setting) → Laws S → (t : ℕ → Exchanges) (w : World) → Played S t w → PlayedWell S t w

-- Some calls after which side 1 has made an offer and asked to call it off: so no premise above is empty.
pub record OneAsked : Type 0 where
  pub tables : ℕ → Exchanges
  pub world : World
  pub played : Played setting tables world
  pub id : Bytes
  pub exchange : Exchange
  pub here : lookup (tables 1) id ≡ Some exchange
  pub wish : Off
  pub asked : exchange.state ≡ AskedOff wish 0

-- A step in one exchange touches no other.
abbrev pub Alone : Type 0
Alone = (es : Exchanges) (k j : Bytes) (d : Exchange) → d.id ≡ k → bytes_eq k j ≡ false → lookup (store es k d) j ≡ lookup es j
