-- What a side that keeps to the rules does in one exchange, at each event. A refusal is its number. Assumes nothing.
use Rattle.std.specs.Prelude.{ℕ, ◌+◌, Bool, true, false, cond, ◌&&◌, replicate, Some, None, Ok, Err, Option, Result, ◌==◌, nat_le}
use Rattle.std.specs.Str.{bytes_eq}
use Rattle.papers.specs.declared.Party.{Party}
use Rattle.papers.specs.declared.Terms.{Terms}
use Rattle.papers.specs.declared.Offer.{Offer}
use Rattle.papers.specs.declared.Acceptance.{Acceptance}
use Rattle.papers.specs.declared.Secret.{Secret}
use Rattle.papers.specs.declared.Off.{Off}
use Rattle.papers.specs.declared.Finding.{Finding}
use Rattle.papers.specs.declared.Finding.TheVariants.{CalledOff, Standing}
use Rattle.papers.specs.declared.Notice.{Notice}
use Rattle.papers.specs.declared.Refusal.{Refusal}
use Rattle.papers.specs.declared.Question.{Question}
use Rattle.papers.specs.declared.Paper.{Paper}
use Rattle.papers.specs.declared.Fault.{Fault}
use Rattle.papers.specs.Encoding.{Bytes, offer_head, acceptance_head, off_head, question_head, about}
use Rattle.signing.specs.Scheme.{Scheme}
use Rattle.signing.specs.Checks.{by_number, else_fault, and_then, party_of, ident, acceptance_signed, off_signed, question_signed, refusal_signed, vetted}
use Rattle.contract.specs.declared.Contract.{Contract}
use Rattle.contract.specs.Contract.{same_offer, opens}
use Rattle.exchange.specs.declared.Role.{Role}
use Rattle.exchange.specs.declared.Role.TheVariants.{First, Second}
use Rattle.exchange.specs.declared.State.{State}
use Rattle.exchange.specs.declared.State.TheVariants.{Offered, AskedOff, Said, AskedStands, Accepted, Asked, Bound, Free}
use Rattle.exchange.specs.declared.Exchange.{Exchange}
use Rattle.exchange.specs.declared.Post.{Post}
use Rattle.exchange.specs.declared.Effect.{Effect}
use Rattle.exchange.specs.declared.Effect.TheVariants.{Nothing, Send, Full}
use Rattle.exchange.specs.declared.Order.{Order}

-- the exchange after a step, and what it does or the number by which it is refused
abbrev pub Outcome : Type 0
Outcome = Exchange × Result Effect ℕ

abbrev pub outcome : Exchange × Result Effect Fault → Outcome
outcome d = (d.0, by_number d.1)

abbrev pub with_state : Exchange → State → Exchange
with_state e s = record { role = e.role; id = e.id; offer = e.offer; secret = e.secret; state = s }

-- a refusal leaves the exchange as it was
abbrev pub refuse : Exchange → ℕ → Outcome
refuse e n = (e, Err n)

abbrev pub go_on : Exchange → State → Effect → Outcome
go_on e s f = (with_state e s, Ok f)

-- this side's number
abbrev pub me_as : Role → Offer → ℕ
me_as First o = o.first
me_as Second o = o.second

abbrev pub me : Exchange → ℕ
me e = me_as e.role e.offer

abbrev pub to_side : ℕ → Paper → Effect
to_side n x = Send (record { to = Party.Side n; paper = x })

abbrev pub to_notary : Exchange → Paper → Effect
to_notary e x = Send (record { to = Party.Notary e.offer.notary; paper = x })

-- in the place of the lock, for the first side's secret
abbrev pub zeros : Bytes
zeros = replicate 32 0

abbrev pub ended : State → Bool
ended Offered = false
ended (AskedOff w t) = false
ended (Said a) = false
ended (AskedStands q t) = false
ended (Accepted a) = false
ended (Asked q t) = false
ended (Bound c) = true
ended (Free n) = true

-- ---- A MESSAGE THAT IS RIGHT IN ITSELF AND OF THIS EXCHANGE
-- by the terms: both secrets are there
abbrev pub by_secrets : Terms → Exchange → Contract → Effect → Outcome
by_secrets Terms.Plain e c f = go_on e (Bound c) f

-- by the terms: the notary's answer to a side that has asked, and may be freed
abbrev pub answered : Terms → Exchange → Notice → Finding → Outcome
answered Terms.Plain e n (CalledOff f) = go_on e (Free n) Nothing
answered Terms.Plain e n (Standing a) = go_on e (Bound (Contract.Stands (record { acceptance = a; stamp = n.stamp; signature = n.signature }))) Nothing

-- and to one that has said its secret
abbrev pub answered_said : Terms → Exchange → Notice → Finding → Outcome
answered_said Terms.Plain e n (CalledOff f) = refuse e 10
answered_said Terms.Plain e n (Standing a) = go_on e (Bound (Contract.Stands (record { acceptance = a; stamp = n.stamp; signature = n.signature }))) Nothing

abbrev pub heed : Exchange → Notice → Outcome
heed e n = answered e.offer.terms e n n.finding

abbrev pub heed_said : Exchange → Notice → Outcome
heed_said e n = answered_said e.offer.terms e n n.finding

-- the second side's secret comes to the first, which keeps a
abbrev pub second_said : Exchange → Acceptance → Secret → Outcome
second_said e a s = by_secrets e.offer.terms e (Contract.Secrets a e.secret s.secret) Nothing

-- the first side's secret comes to the second, which has accepted by a
abbrev pub first_said : Exchange → Acceptance → Secret → Outcome
first_said e a s =
    by_secrets e.offer.terms e (Contract.Secrets a s.secret e.secret)
    (to_side e.offer.first (Paper.Secret (record { offer = e.id; lock = a.lock; secret = e.secret })))

-- the first acceptance comes to the first side
abbrev pub keep : Exchange → Acceptance → Outcome
keep e a = go_on e (Said a) (to_side e.offer.second (Paper.Secret (record { offer = e.id; lock = zeros; secret = e.secret })))

-- THE TABLE OF STATES AND KINDS OF MESSAGES
abbrev pub step_in : Exchange → State → Paper → Outcome
step_in e Offered (Paper.Offer o) = refuse e 10
step_in e Offered (Paper.Acceptance a) = keep e a
step_in e Offered (Paper.Secret s) = refuse e 10
step_in e Offered (Paper.Off f) = refuse e 10
step_in e Offered (Paper.Notice n) = refuse e 10
step_in e Offered (Paper.Refusal r) = refuse e 10
step_in e Offered (Paper.Question q) = refuse e 10
step_in e (AskedOff w t) (Paper.Offer o) = refuse e 10
step_in e (AskedOff w t) (Paper.Acceptance a) = refuse e 6
step_in e (AskedOff w t) (Paper.Secret s) = refuse e 10
step_in e (AskedOff w t) (Paper.Off f) = refuse e 10
step_in e (AskedOff w t) (Paper.Notice n) = heed e n
step_in e (AskedOff w t) (Paper.Refusal r) = (e, Ok Full)
step_in e (AskedOff w t) (Paper.Question q) = refuse e 10
step_in e (Said k) (Paper.Offer o) = refuse e 10
step_in e (Said k) (Paper.Acceptance a) = refuse e 6
step_in e (Said k) (Paper.Secret s) = second_said e k s
step_in e (Said k) (Paper.Off f) = refuse e 10
step_in e (Said k) (Paper.Notice n) = refuse e 10
step_in e (Said k) (Paper.Refusal r) = refuse e 10
step_in e (Said k) (Paper.Question q) = refuse e 10
step_in e (AskedStands k t) (Paper.Offer o) = refuse e 10
step_in e (AskedStands k t) (Paper.Acceptance a) = refuse e 6
step_in e (AskedStands k t) (Paper.Secret s) = second_said e k.acceptance s
step_in e (AskedStands k t) (Paper.Off f) = refuse e 10
step_in e (AskedStands k t) (Paper.Notice n) = heed_said e n
step_in e (AskedStands k t) (Paper.Refusal r) = (e, Ok Full)
step_in e (AskedStands k t) (Paper.Question q) = refuse e 10
step_in e (Accepted k) (Paper.Offer o) = refuse e 10
step_in e (Accepted k) (Paper.Acceptance a) = refuse e 6
step_in e (Accepted k) (Paper.Secret s) = first_said e k s
step_in e (Accepted k) (Paper.Off f) = refuse e 10
step_in e (Accepted k) (Paper.Notice n) = refuse e 10
step_in e (Accepted k) (Paper.Refusal r) = refuse e 10
step_in e (Accepted k) (Paper.Question q) = refuse e 10
step_in e (Asked k t) (Paper.Offer o) = refuse e 10
step_in e (Asked k t) (Paper.Acceptance a) = refuse e 6
step_in e (Asked k t) (Paper.Secret s) = refuse e 10
step_in e (Asked k t) (Paper.Off f) = refuse e 10
step_in e (Asked k t) (Paper.Notice n) = heed e n
step_in e (Asked k t) (Paper.Refusal r) = (e, Ok Full)
step_in e (Asked k t) (Paper.Question q) = refuse e 10
step_in e (Bound c) (Paper.Offer o) = refuse e 10
step_in e (Bound c) (Paper.Acceptance a) = refuse e 6
step_in e (Bound c) (Paper.Secret s) = refuse e 10
step_in e (Bound c) (Paper.Off f) = refuse e 10
step_in e (Bound c) (Paper.Notice n) = refuse e 10
step_in e (Bound c) (Paper.Refusal r) = refuse e 10
step_in e (Bound c) (Paper.Question q) = refuse e 10
step_in e (Free f) (Paper.Offer o) = refuse e 10
step_in e (Free f) (Paper.Acceptance a) = refuse e 6
step_in e (Free f) (Paper.Secret s) = refuse e 10
step_in e (Free f) (Paper.Off g) = refuse e 10
step_in e (Free f) (Paper.Notice n) = refuse e 10
step_in e (Free f) (Paper.Refusal r) = refuse e 10
step_in e (Free f) (Paper.Question q) = refuse e 10

unfoldable pub step : Exchange → Paper → Outcome
step e x = step_in e e.state x

-- ---- WHAT IS WRONG WITH A MESSAGE BEFORE THE STATE IS LOOKED AT: 2, 3, 4, 5 or 7, the lowest first
-- 4: a paper that names its offer in full, and goes to this side
abbrev pub addressed : ℕ → Paper → Bool
addressed p (Paper.Offer o) = o.second == p
addressed p (Paper.Acceptance a) = a.offer.first == p
addressed p (Paper.Secret s) = true
addressed p (Paper.Off f) = party_of p f.offer
addressed p (Paper.Notice n) = party_of p (about n.finding)
addressed p (Paper.Refusal r) = true
addressed p (Paper.Question q) = party_of p q.acceptance.offer

-- 5: it is about this very offer, or names its id
abbrev pub concerns : Exchange → Paper → Bool
concerns e (Paper.Offer o) = same_offer o e.offer
concerns e (Paper.Acceptance a) = same_offer a.offer e.offer
concerns e (Paper.Secret s) = bytes_eq s.offer e.id
concerns e (Paper.Off f) = same_offer f.offer e.offer
concerns e (Paper.Notice n) = same_offer (about n.finding) e.offer
concerns e (Paper.Refusal r) = bytes_eq r.offer e.id
concerns e (Paper.Question q) = same_offer q.acceptance.offer e.offer

-- 4 of a secret: the first side gets the second's, and the second the first's
abbrev pub other_side's : Role → Secret → Bool
other_side's First s = cond (bytes_eq s.lock zeros) false true
other_side's Second s = bytes_eq s.lock zeros

module _ (S : Scheme) where
  -- the secret of the acceptance that is kept
  abbrev pub of_kept : Acceptance → Secret → Bool
  of_kept a s = bytes_eq s.lock a.lock && opens S s.secret a.lock

  -- 7: the secret opens the lock that it is for
  abbrev pub second_opens : State → Secret → Bool
  second_opens Offered s = opens S s.secret s.lock
  second_opens (AskedOff w t) s = opens S s.secret s.lock
  second_opens (Said a) s = of_kept a s
  second_opens (AskedStands q t) s = of_kept q.acceptance s
  second_opens (Accepted a) s = opens S s.secret s.lock
  second_opens (Asked q t) s = opens S s.secret s.lock
  second_opens (Bound c) s = opens S s.secret s.lock
  second_opens (Free n) s = opens S s.secret s.lock

  abbrev pub fits : Exchange → Role → Secret → Bool
  fits e First s = second_opens e.state s
  fits e Second s = opens S s.secret e.offer.lock

  -- a paper that can be checked by itself
  unfoldable pub checked : Exchange → Paper → Option ℕ
  checked e x = and_then (vetted S x) (else_fault (addressed (me e) x) 4 (else_fault (concerns e x) 5 None))

  unfoldable pub secret_checked : Exchange → Secret → Option ℕ
  secret_checked e s = else_fault (bytes_eq s.offer e.id) 5 (else_fault (other_side's e.role s) 4 (else_fault (fits e e.role s) 7 None))

  unfoldable pub refusal_checked : Exchange → Refusal → Option ℕ
  refusal_checked e r = else_fault (bytes_eq r.offer e.id) 5 (else_fault (refusal_signed S e.offer.notary r) 3 None)

  abbrev pub fault : Exchange → Paper → Option ℕ
  fault e (Paper.Offer o) = checked e (Paper.Offer o)
  fault e (Paper.Acceptance a) = checked e (Paper.Acceptance a)
  fault e (Paper.Secret s) = secret_checked e s
  fault e (Paper.Off f) = checked e (Paper.Off f)
  fault e (Paper.Notice n) = checked e (Paper.Notice n)
  fault e (Paper.Refusal r) = refusal_checked e r
  fault e (Paper.Question q) = checked e (Paper.Question q)

  -- A MESSAGE COMES
  abbrev pub unless : Option ℕ → Exchange → Paper → Outcome
  unless None e x = step e x
  unless (Some n) e x = refuse e n

  unfoldable pub receive : Exchange → Paper → Outcome
  receive e x = unless (fault e x) e x

  -- ---- ORDERS; sign is this side's own
  module _ (sign : Bytes → Bytes) where
    abbrev pub unsigned_offer : Order → Offer
    unsigned_offer d = record { first = d.first; second = d.second; notary = d.notary; terms = d.terms; text = d.text; lock = S.digest d.secret; signature = replicate 64 0 }

    abbrev pub sign_offer : Offer → Offer
    sign_offer o = record { first = o.first; second = o.second; notary = o.notary; terms = o.terms; text = o.text; lock = o.lock; signature = sign (offer_head o) }

    unfoldable pub new_offer : Order → Offer
    new_offer d = sign_offer (unsigned_offer d)

    abbrev pub opened : Role → Offer → Bytes → State → Exchange
    opened r o x s = record { role = r; id = ident S o; offer = o; secret = x; state = s }

    -- a new exchange with what is sent first, or the number
    abbrev pub Opening : Type 0
    Opening = Result (Exchange × Post) ℕ

    abbrev pub refused_by : Option ℕ → Opening → Opening
    refused_by None then = then
    refused_by (Some n) then = Err n

    -- it is told to make an offer: 2, 3 (its own signature does not pass)
    unfoldable pub offer : Order → Opening
    offer d = refused_by (vetted S (Paper.Offer (new_offer d))) (Ok (opened First (new_offer d) d.secret Offered, record { to = Party.Side d.second; paper = Paper.Offer (new_offer d) }))

    unfoldable pub new_acceptance : Offer → Bytes → Acceptance
    new_acceptance o x =
        record { offer = o; lock = S.digest x; signature = sign (acceptance_head (record { offer = o; lock = S.digest x; signature = replicate 64 0 })) }

    -- it is told to accept: 2, 3, 4, and 3 again where its own signature does not pass
    unfoldable pub accept : ℕ → Offer → Bytes → Opening
    accept p o x =
        refused_by (and_then (vetted S (Paper.Offer o)) (else_fault (o.second == p) 4 (else_fault (acceptance_signed S (new_acceptance o x)) 3 None)))
        (Ok (opened Second o x (Accepted (new_acceptance o x)), record { to = Party.Side o.first; paper = Paper.Acceptance (new_acceptance o x) }))

    unfoldable pub new_wish : Offer → Off
    new_wish o = record { offer = o; signature = sign (off_head (record { offer = o; signature = replicate 64 0 })) }

    unfoldable pub new_question : ℕ → Acceptance → Question
    new_question p a = record { side = p; acceptance = a; signature = sign (question_head (record { side = p; acceptance = a; signature = replicate 64 0 })) }

    -- a question, signed now; 3 where the signature does not pass
    abbrev pub ask_off : Exchange → Off → Outcome
    ask_off e w = cond (off_signed S w) (go_on e (AskedOff w 0) (to_notary e (Paper.Off w))) (refuse e 3)

    abbrev pub ask_by : Exchange → (Question → ℕ → State) → Question → Outcome
    ask_by e next q = cond (question_signed S q) (go_on e (next q 0) (to_notary e (Paper.Question q))) (refuse e 3)

    -- it is told to ask, or to ask again by the same bytes
    abbrev pub ask_in : Exchange → State → Outcome
    ask_in e Offered = ask_off e (new_wish e.offer)
    ask_in e (AskedOff w t) = go_on e (AskedOff w 0) (to_notary e (Paper.Off w))
    ask_in e (Said a) = ask_by e AskedStands (new_question (me e) a)
    ask_in e (AskedStands q t) = go_on e (AskedStands q 0) (to_notary e (Paper.Question q))
    ask_in e (Accepted a) = ask_by e Asked (new_question (me e) a)
    ask_in e (Asked q t) = go_on e (Asked q 0) (to_notary e (Paper.Question q))
    ask_in e (Bound c) = refuse e 10
    ask_in e (Free n) = refuse e 10

    unfoldable pub ask : Exchange → Outcome
    ask e = ask_in e e.state

-- ---- A TICK: the 64th after the question sends it again
abbrev pub tick_in : Exchange → State → Exchange × Effect
tick_in e Offered = (e, Nothing)
tick_in e (AskedOff w t) = cond (nat_le 63 t) (with_state e (AskedOff w 0), to_notary e (Paper.Off w)) (with_state e (AskedOff w (t + 1)), Nothing)
tick_in e (Said a) = (e, Nothing)
tick_in e (AskedStands q t) = cond (nat_le 63 t) (with_state e (AskedStands q 0), to_notary e (Paper.Question q)) (with_state e (AskedStands q (t + 1)), Nothing)
tick_in e (Accepted a) = (e, Nothing)
tick_in e (Asked q t) = cond (nat_le 63 t) (with_state e (Asked q 0), to_notary e (Paper.Question q)) (with_state e (Asked q (t + 1)), Nothing)
tick_in e (Bound c) = (e, Nothing)
tick_in e (Free n) = (e, Nothing)

unfoldable pub tick : Exchange → Exchange × Effect
tick e = tick_in e e.state
