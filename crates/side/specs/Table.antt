-- A side as the list of its exchanges, in the order in which they were opened; ended ones stay. A refusal is its number, and changes nothing. Assumes nothing.
use Rattle.std.specs.Prelude.{ℕ, suc, Bool, false, cond, not, ◌&&◌, ◌||◌, List, [], ◌∷◌, ◌++◌, length, is_some, Some, None, Ok, Err, Option, Result, ◌==◌, nat_lt}
use Rattle.std.specs.Str.{bytes_eq}
use Rattle.papers.specs.declared.Offer.{Offer}
use Rattle.papers.specs.declared.Paper.{Paper}
use Rattle.papers.specs.Encoding.{Bytes, about}
use Rattle.signing.specs.Scheme.{Scheme}
use Rattle.signing.specs.Checks.{else_fault, and_then, ident, parties_known, vetted}
use Rattle.exchange.specs.declared.Exchange.{Exchange}
use Rattle.exchange.specs.declared.Post.{Post}
use Rattle.exchange.specs.declared.Effect.{Effect}
use Rattle.exchange.specs.declared.Effect.TheVariants.{Nothing, Send, Full}
use Rattle.exchange.specs.declared.Order.{Order}
use Rattle.exchange.specs.Steps.{Outcome, ended, addressed, receive, unsigned_offer, offer, accept, ask, tick}
use Rattle.side.specs.declared.Opened.{Opened}
use Rattle.side.specs.declared.News.{News}

abbrev pub Exchanges : Type 0
Exchanges = List Exchange

-- ---- what a side knows
-- the exchange with this id
unfoldable pub lookup : Exchanges → Bytes → Option Exchange
lookup [] k = None
lookup (e ∷ es) k = cond (bytes_eq e.id k) (Some e) (lookup es k)

-- another state of the exchange with this id
unfoldable pub store : Exchanges → Bytes → Exchange → Exchanges
store [] k d = []
store (e ∷ es) k d = cond (bytes_eq e.id k) (d ∷ es) (e ∷ store es k d)

-- the secret was drawn for one of them
unfoldable pub uses : Exchanges → Bytes → Bool
uses [] x = false
uses (e ∷ es) x = bytes_eq e.secret x || uses es x

unfoldable pub open_count : Exchanges → ℕ
open_count [] = 0
open_count (e ∷ es) = cond (ended e.state) (open_count es) (suc (open_count es))

abbrev pub taken : Exchanges → Bytes → Bool
taken es k = is_some (lookup es k)

-- 8: at most 1,024 that have not ended, and 65,536 in all
abbrev pub has_room : Exchanges → Bool
has_room es = nat_lt (open_count es) 1024 && nat_lt (length es) 65536

-- ---- ORDERS
abbrev pub Answer : Type 0 → Type 0
Answer X = Exchanges × Result X ℕ

-- a new exchange: 10 where its id was used before
abbrev pub opens : Exchanges → Result (Exchange × Post) ℕ → Answer Opened
opens es (Err n) = (es, Err n)
opens es (Ok o) = cond (taken es o.0.id) (es, Err 10) (es ++ (o.0 ∷ []), Ok (record { id = o.0.id; post = o.1 }))

-- an order is refused before anything is signed, or opens what comes of it
abbrev pub opening : Exchanges → Option ℕ → Result (Exchange × Post) ℕ → Answer Opened
opening es (Some n) r = (es, Err n)
opening es None r = opens es r

-- whether it ended just now
abbrev pub ends_now : Exchange → Exchange → Bool
ends_now e d = ended d.state && not (ended e.state)

abbrev pub news : Bytes → Exchange → Exchange → Result Effect ℕ → Result News ℕ
news k e d (Ok f) = Ok (News.Moved k f (ends_now e d))
news k e d (Err n) = Err n

abbrev pub moves : Exchanges → Bytes → Exchange → Outcome → Answer News
moves es k e d = (store es k d.0, news k e d.0 d.1)

abbrev pub fault_or : {X : Type 0} → Option ℕ → X → Result X ℕ
fault_or None x = Ok x
fault_or (Some n) x = Err n

module _ (C : Scheme) where
  -- what is wrong with an offer that comes: 2, 3, 4, 8, 10
  abbrev pub judged_fault : ℕ → Exchanges → Offer → Option ℕ
  judged_fault me es o = and_then (vetted C (Paper.Offer o)) (else_fault (o.second == me) 4 (else_fault (has_room es) 8 (else_fault (not (taken es (ident C o))) 10 None)))

  -- and with an order to accept it, before anything is signed: 10 also where the secret was drawn before
  abbrev pub accept_fault : ℕ → Exchanges → Offer → Bytes → Option ℕ
  accept_fault me es o x = and_then (judged_fault me es o) (else_fault (not (uses es x)) 10 None)

  module _ (sign : Bytes → Bytes) where
    -- what is wrong with an order to make an offer, before anything is signed: 2, 8, 10 where the secret was drawn before
    abbrev pub offer_fault : Exchanges → Order → Option ℕ
    offer_fault es d = else_fault (parties_known C (unsigned_offer C sign d)) 2 (else_fault (has_room es) 8 (else_fault (not (uses es d.secret)) 10 None))

    unfoldable pub side_offer : Exchanges → Order → Answer Opened
    side_offer es d = opening es (offer_fault es d) (offer C sign d)

    unfoldable pub side_accept : ℕ → Exchanges → Offer → Bytes → Answer Opened
    side_accept me es o x = opening es (accept_fault me es o x) (accept C sign me o x)

    abbrev pub ask_found : Exchanges → Bytes → Option Exchange → Answer News
    ask_found es k None = (es, Err 5)
    ask_found es k (Some e) = moves es k e (ask C sign e)

    unfoldable pub side_ask : Exchanges → Bytes → Answer News
    side_ask es k = ask_found es k (lookup es k)

  -- ---- A MESSAGE
  abbrev pub found : Exchanges → Bytes → Paper → Option ℕ → Option Exchange → Answer News
  found es k x n (Some e) = moves es k e (receive C e x)
  found es k x (Some n) None = (es, Err n)
  found es k x None None = (es, Err 5)

  -- what is wrong with a paper of an offer that is not known here: 2, 3, 4, or else 5
  abbrev pub unknown : ℕ → Paper → Option ℕ
  unknown me x = and_then (vetted C x) (else_fault (addressed me x) 4 (Some 5))

  -- an offer is judged, and nothing is kept of it
  abbrev pub judged : Exchanges → Bytes → Option ℕ → Answer News
  judged es k (Some n) = (es, Err n)
  judged es k None = (es, Ok (News.Offered k))

  -- an offer's id, if it may be accepted
  abbrev pub judging : ℕ → Exchanges → Offer → Result Bytes ℕ
  judging me es o = fault_or (judged_fault me es o) (ident C o)

  unfoldable pub side_hears : ℕ → Exchanges → Paper → Answer News
  side_hears me es (Paper.Offer o) = judged es (ident C o) (judged_fault me es o)
  side_hears me es (Paper.Acceptance a) = found es (ident C a.offer) (Paper.Acceptance a) (unknown me (Paper.Acceptance a)) (lookup es (ident C a.offer))
  side_hears me es (Paper.Secret s) = found es s.offer (Paper.Secret s) (Some 5) (lookup es s.offer)
  side_hears me es (Paper.Off f) = found es (ident C f.offer) (Paper.Off f) (unknown me (Paper.Off f)) (lookup es (ident C f.offer))
  side_hears me es (Paper.Notice n) = found es (ident C (about n.finding)) (Paper.Notice n) (unknown me (Paper.Notice n)) (lookup es (ident C (about n.finding)))
  side_hears me es (Paper.Refusal r) = found es r.offer (Paper.Refusal r) (Some 5) (lookup es r.offer)
  side_hears me es (Paper.Question q) = found es (ident C q.acceptance.offer) (Paper.Question q) (unknown me (Paper.Question q)) (lookup es (ident C q.acceptance.offer))

-- ---- A TICK: for each exchange, in the order in which they were opened
abbrev pub posts_in : Effect → List Post
posts_in Nothing = []
posts_in (Send m) = m ∷ []
posts_in Full = []

unfoldable pub ticked : Exchanges → Exchanges
ticked [] = []
ticked (e ∷ es) = (tick e).0 ∷ ticked es

unfoldable pub tick_posts : Exchanges → List Post
tick_posts [] = []
tick_posts (e ∷ es) = posts_in (tick e).1 ++ tick_posts es
