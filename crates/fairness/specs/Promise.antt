-- The promise of the whole. Assumes nothing.
use Rattle.std.specs.Prelude.{◌≡◌, ℕ, Bool, ◌||◌, T, ◌⊎◌, List, [], ◌∷◌, ◌++◌, is_some, Some, None, Ok, Err, Option, Result, ◌≢◌}
use Rattle.papers.specs.declared.Party.{Party}
use Rattle.papers.specs.declared.Offer.{Offer}
use Rattle.papers.specs.declared.Acceptance.{Acceptance}
use Rattle.papers.specs.declared.Notice.{Notice}
use Rattle.papers.specs.declared.Stands.{Stands}
use Rattle.papers.specs.declared.Paper.{Paper}
use Rattle.papers.specs.Encoding.{Bytes, offer_bytes, about, NoticeSized}
use Rattle.signing.specs.Checks.{sound, notary_of}
use Rattle.contract.specs.declared.Contract.{Contract}
use Rattle.contract.specs.Contract.{notice_of, offer_in, clash, contract, cheated}
use Rattle.exchange.specs.declared.State.TheVariants.{Offered, Said, Accepted, Bound, Free}
use Rattle.exchange.specs.declared.Exchange.{Exchange}
use Rattle.exchange.specs.declared.Effect.{Effect}
use Rattle.exchange.specs.declared.Effect.TheVariants.{Nothing, Send}
use Rattle.exchange.specs.Steps.{Outcome, ended, with_state, go_on, to_side, zeros, receive, ask, tick}
use Rattle.notary.specs.declared.Decision.{Decision}
use Rattle.fairness.specs.World.{Setting, Laws, In, World, NoticeBacked, AtHand, id_of, offer_asked, after_outcome, after_decision, decides, effect_in, Possible, Step, offers, accepts, asks, ticks, hears, asked, clock, Run, Reach}

module _ (S : Setting) where
  -- the strings of which digests are taken in a contract
  abbrev pub strings : Contract → List Bytes
  strings (Contract.Secrets a x y) = offer_bytes a.offer ∷ (x ∷ (y ∷ []))
  strings (Contract.Stands s) = offer_bytes s.acceptance.offer ∷ []

  abbrev pub own_strings : Exchange → List Bytes
  own_strings e = offer_bytes e.offer ∷ (e.secret ∷ [])

  -- among these strings, two that differ and have one digest
  abbrev pub Collision : List Bytes → Type 0
  Collision xs = (x : Bytes) × (y : Bytes) × In x xs × In y xs × (x ≢ y) × (S.scheme.digest x ≡ S.scheme.digest y)

  -- the contract c is by Stands, and with the Off that freed the side it shows that the notary cheated
  abbrev pub CheatShown : World → Notice → Contract → Type 0
  CheatShown w f c = (s : Stands) × (c ≡ Contract.Stands s) × T (cheated S.scheme f (notice_of s)) × NoticeBacked S w f

  -- what is signed with one's own key is accepted
  abbrev pub SignOk : Party → Type 0
  SignOk p = (m : Bytes) → T (S.scheme.accepts p m (S.sign p m))

  -- the answer of a notary, if it is one
  abbrev pub answers : Result Decision ℕ → Option Paper
  answers (Ok d) = Some d.answer
  answers (Err k) = None

  -- the paper that a step sends
  abbrev pub sends : Effect → Option Paper
  sends Nothing = None
  sends (Send m) = Some m.paper
  sends Effect.Full = None

  -- what a step sends
  abbrev pub sent : {w v : World} → Step S w v → Option Paper
  sent (offers d e m hon z fresh q free) = Some m.paper
  sent (accepts p o x e m hon z back size fresh q free) = Some m.paper
  sent (asks p k e hon here) = sends (effect_in (ask S.scheme (S.sign (Party.Side p)) e).1)
  sent (ticks p k e hon here) = sends (tick e).1
  sent (hears p k e x hon here pos) = sends (effect_in (receive S.scheme e x).1)
  sent {w} (asked n room x hon pos) = answers (decides S w n room x)
  sent (clock n c h) = None

  -- The side p asks. In whatever world v the question then comes to the notary n, which has room or a row already, it is answered; in
  -- whatever world u the answer comes to the side, the side has ended or ends with it.
  abbrev pub Ends : World → ℕ → Bytes → Exchange → ℕ → Type 0
  Ends w p k e n =
      let d : Outcome = ask S.scheme (S.sign (Party.Side p)) e in
      (q : Paper) × (sends (effect_in d.1) ≡ Some q) × ((v : World) → Run S (after_outcome w p k d []) v → (room : Bool) → T (room || is_some (v.books n k)) →
      (r : Notice) × (answers (decides S v n room q) ≡ Some (Paper.Notice r)) × ((u : World) → Run S (after_decision S v n (decides S v n room q)) u → (c : Exchange) → u.sides p k ≡ Some c →
      T (ended c.state) ⊎ (T (ended (receive S.scheme c (Paper.Notice r)).0.state) ⊎ Collision (offer_bytes (about r.finding) ∷ own_strings c))))

  -- ---- OF AN HONEST SIDE p in its exchange e, of the offer with the id k
  -- who is bound holds a contract of its offer
  abbrev pub HoldsContract : World → ℕ → Bytes → Exchange → Type 0
  HoldsContract w p k e = (c : Contract) → e.state ≡ Bound c → T (contract S.scheme c) × (offer_in c ≡ e.offer) × AtHand S w c

  -- who is free: nobody can show a contract of the offer, now or ever, unless the notary cheated, which then can be shown, or the digest is broken by what is shown
  abbrev pub NoContract : World → ℕ → Bytes → Exchange → Type 0
  NoContract w p k e = (f : Notice) → e.state ≡ Free f → (v : World) → Run S w v → (c : Contract) → T (contract S.scheme c) → id_of S (offer_in c) ≡ k → AtHand S v c → CheatShown v f c ⊎ Collision (strings c ++ own_strings e)

  -- and with an honest notary not even so
  abbrev pub NoContractAtAll : World → ℕ → Bytes → Exchange → Type 0
  NoContractAtAll w p k e =
      (f : Notice) → e.state ≡ Free f → T (S.honest (Party.Notary e.offer.notary)) → (v : World) → Run S w v → (c : Contract) → T (contract S.scheme c) → id_of S (offer_in c) ≡ k → AtHand S v c → Collision (strings c ++ own_strings e)

  -- who has ended stays so
  abbrev pub StaysEnded : World → ℕ → Bytes → Exchange → Type 0
  StaysEnded w p k e = T (ended e.state) → (v : World) → Run S w v → v.sides p k ≡ Some e

  -- nobody need wait: with an honest notary that has room, or a row already, and signatures that pass, it can end
  abbrev pub CanEnd : World → ℕ → Bytes → Exchange → Type 0
  CanEnd w p k e = (n : ℕ) → e.offer.notary ≡ n → T (S.honest (Party.Notary n)) → SignOk (Party.Side p) → SignOk (Party.Notary n) → (T (ended e.state) → ⊥) → Ends w p k e n

  -- ---- OF ALL
  -- an honest notary has not signed findings that clash
  abbrev pub NeverBoth : World → Type 0
  NeverBoth w =
      (f s : Notice) → notary_of f ≡ notary_of s → T (S.honest (Party.Notary (notary_of f))) → T (sound S.scheme (Paper.Notice f)) → T (sound S.scheme (Paper.Notice s)) → T (clash f.finding s.finding) →
      NoticeSized f → NoticeSized s → NoticeBacked S w f → NoticeBacked S w s → ⊥

  -- what it has in the book stays, and is its answer to every question that it does not refuse: always the same bytes
  abbrev pub SameAnswer : World → Type 0
  SameAnswer w =
      (n : ℕ) (k : Bytes) (r : Notice) → w.books n k ≡ Some r → (v : World) → Run S w v →
      (v.books n k ≡ Some r) × ((room : Bool) (q : Paper) (o : Offer) (x : Paper) → offer_asked q ≡ Some o → id_of S o ≡ k → answers (decides S v n room q) ≡ Some x → x ≡ Paper.Notice r)

  -- a contract that names an honest side is one of that side's own exchanges
  abbrev pub OwnOnly : World → Type 0
  OwnOnly w =
      (p : ℕ) (c : Contract) → T (S.honest (Party.Side p)) → ((offer_in c).first ≡ p) ⊎ ((offer_in c).second ≡ p) → T (contract S.scheme c) → AtHand S w c →
      (e : Exchange) × (w.sides p (id_of S (offer_in c)) ≡ Some e) × (e.offer ≡ offer_in c)

  -- of one offer, with an honest notary: no honest side is bound while another is free
  abbrev pub BothAlike : World → Type 0
  BothAlike w =
      (p q : ℕ) (k : Bytes) (e d : Exchange) (c : Contract) (f : Notice) → w.sides p k ≡ Some e → w.sides q k ≡ Some d → e.state ≡ Bound c → d.state ≡ Free f → T (S.honest (Party.Notary d.offer.notary)) →
      Collision (strings c ++ own_strings d)

  -- nobody need ask: if the messages come through, both end bound, by an acceptance, the first's secret and the second's secret
  abbrev pub ComesThrough : World → Type 0
  ComesThrough w =
      (p q : ℕ) (k : Bytes) (e d : Exchange) (a : Acceptance) → w.sides p k ≡ Some e → w.sides q k ≡ Some d → e.state ≡ Offered → d.state ≡ Accepted a → e.offer ≡ d.offer → (S.scheme.digest d.secret ≢ zeros) →
      let c : Contract = Contract.Secrets a e.secret d.secret in
      let first : Paper = Paper.Secret (record { offer = k; lock = zeros; secret = e.secret }) in
      let second : Paper = Paper.Secret (record { offer = k; lock = a.lock; secret = d.secret }) in
      (receive S.scheme e (Paper.Acceptance a) ≡ go_on e (Said a) (to_side e.offer.second first))
      × (receive S.scheme d first ≡ go_on d (Bound c) (to_side d.offer.first second))
      × (receive S.scheme (with_state e (Said a)) second ≡ go_on e (Bound c) Nothing)

  -- whatever honest code sends, anybody can send on: the runs leave nobody out
  abbrev pub SentOn : World → Type 0
  SentOn w = (v : World) (s : Step S w v) (x : Paper) → sent s ≡ Some x → Possible S v x

  pub record Fair (w : World) (p : ℕ) (k : Bytes) (e : Exchange) : Type 0 where
    pub bound : HoldsContract w p k e
    pub free : NoContract w p k e
    pub free_honest : NoContractAtAll w p k e
    pub stable : StaysEnded w p k e
    pub ends : CanEnd w p k e

  pub record Whole (w : World) : Type 0 where
    pub each : (p : ℕ) (k : Bytes) (e : Exchange) → w.sides p k ≡ Some e → Fair w p k e
    pub never_both : NeverBoth w
    pub steady : SameAnswer w
    pub named : OwnOnly w
    pub both : BothAlike w
    pub meet : ComesThrough w
    pub sent_on : SentOn w

-- in every world that can come about, under every scheme whose digests and signatures have their sizes
abbrev pub Always : ((S : Setting) → World → Type 0) → Type 0
Always P = (S : Setting) → Laws S → (w : World) → Reach S w → P S w

-- and there of every exchange of an honest side
abbrev pub ForEach : ((S : Setting) → World → ℕ → Bytes → Exchange → Type 0) → Type 0
ForEach P = Always (λ S w. (p : ℕ) (k : Bytes) (e : Exchange) → w.sides p k ≡ Some e → P S w p k e)

-- THE MAIN PROMISE: all of it
abbrev pub Main : Type 0
Main = Always Whole
