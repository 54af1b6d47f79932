-- Seven courses of an exchange, as rows of one table: what is done, how each side ends, what the notary has, what the papers are worth. Assumes nothing.
use Rattle.std.specs.Prelude.{◌≡◌, ℕ, Bool, true, false, ◌&&◌, List, [], ◌∷◌, replicate, Some, None, Ok, Err, Option, Result, ◌==◌}
use Rattle.std.specs.Str.{bytes_eq}
use Rattle.papers.specs.declared.Party.{Party}
use Rattle.papers.specs.declared.Terms.{Terms}
use Rattle.papers.specs.declared.Offer.{Offer}
use Rattle.papers.specs.declared.Acceptance.{Acceptance}
use Rattle.papers.specs.declared.Off.{Off}
use Rattle.papers.specs.declared.Finding.{Finding}
use Rattle.papers.specs.declared.Finding.TheVariants.{CalledOff, Standing}
use Rattle.papers.specs.declared.Notice.{Notice}
use Rattle.papers.specs.declared.Paper.{Paper}
use Rattle.papers.specs.Encoding.{Bytes, paper_bytes}
use Rattle.signing.specs.Scheme.{Scheme}
use Rattle.signing.specs.Checks.{ident, sound}
use Rattle.contract.specs.declared.Contract.{Contract}
use Rattle.contract.specs.Contract.{contract, cheated}
use Rattle.exchange.specs.declared.Role.TheVariants.{First, Second}
use Rattle.exchange.specs.declared.State.{State}
use Rattle.exchange.specs.declared.State.TheVariants.{Offered, AskedOff, Said, AskedStands, Accepted, Asked, Bound, Free}
use Rattle.exchange.specs.declared.Exchange.{Exchange}
use Rattle.exchange.specs.declared.Effect.{Effect}
use Rattle.exchange.specs.declared.Effect.TheVariants.{Nothing, Send, Full}
use Rattle.exchange.specs.Steps.{Outcome, zeros, opened, receive, ask, new_offer, new_acceptance, new_wish, new_question}
use Rattle.notary.specs.declared.Decision.{Decision}
use Rattle.notary.specs.Decision.{decide, new_notice}
use Rattle.fairness.specs.World.{row_in}
use Rattle.fairness.specs.Example.{setting}

-- ---- the papers: an offer of side 1 to side 2 under notary 1, and what can be made of it
abbrev pub C : Scheme
C = setting.scheme

abbrev pub x₁ : Bytes
x₁ = replicate 32 5

abbrev pub x₂ : Bytes
x₂ = replicate 32 6

-- the secret of the second side's other acceptance
abbrev pub x₃ : Bytes
x₃ = replicate 32 8

abbrev pub offer : Offer
offer = new_offer C (setting.sign (Party.Side 1)) (record { first = 1; second = 2; notary = 1; terms = Terms.Plain; text = replicate 32 7; secret = x₁ })

abbrev pub id : Bytes
id = ident C offer

abbrev pub acceptance : Acceptance
acceptance = new_acceptance C (setting.sign (Party.Side 2)) offer x₂

abbrev pub other_acceptance : Acceptance
other_acceptance = new_acceptance C (setting.sign (Party.Side 2)) offer x₃

abbrev pub first_secret : Paper
first_secret = Paper.Secret (record { offer = id; lock = zeros; secret = x₁ })

abbrev pub second_secret : Paper
second_secret = Paper.Secret (record { offer = id; lock = x₂; secret = x₂ })

abbrev pub wish : Off
wish = new_wish C (setting.sign (Party.Side 1)) offer

-- the side p asks by an acceptance
abbrev pub question : ℕ → Acceptance → Paper
question p a = Paper.Question (new_question C (setting.sign (Party.Side p)) p a)

abbrev pub notice : Finding → Notice
notice f = new_notice C (setting.sign (Party.Notary 1)) 0 f

abbrev pub off : Notice
off = notice (CalledOff wish)

abbrev pub stands : Acceptance → Notice
stands a = notice (Standing a)

-- ---- what is done, and what comes of it
pub data Event : Type 0 where
  first_hears : Paper → Event
  second_hears : Paper → Event
  first_asks : Event
  second_asks : Event
  notary_hears : Paper → Event

-- nothing is sent; this is sent, or answered; it is refused by this number
pub data Effects : Type 0 where
  quiet : Effects
  sends : Paper → Effects
  refused : ℕ → Effects

pub data End : Type 0 where
  going_on : End
  bound_by_secrets : End
  bound_by_stands : End
  free : End

pub data Book : Type 0 where
  nothing : Book
  is_off : Book
  is_standing : Book

-- what papers are worth
pub data Worth : Type 0 where
  is_contract : Contract → Worth
  is_notary's_off : Notice → Worth
  notary_cheated : Notice → Notice → Worth

pub record Row : Type 0 where
  pub course : List (Event × Effects)
  pub first : End
  pub second : End
  pub book : Book
  pub worth : List Worth

-- ---- THE TABLE
-- Offer, acceptance, secret, secret: both bound; the notary knows nothing.
abbrev pub row_a : Row
row_a = record {
  course = (first_hears (Paper.Acceptance acceptance), sends first_secret) ∷ ((second_hears first_secret, sends second_secret) ∷ ((first_hears second_secret, quiet) ∷ []));
  first = bound_by_secrets;
  second = bound_by_secrets;
  book = nothing;
  worth = is_contract (Contract.Secrets acceptance x₁ x₂) ∷ [];
}

-- No acceptance, Off: free. A later acceptance is refused, 6; asked by it, the notary answers Off.
abbrev pub row_b : Row
row_b = record {
  course = (first_asks, sends (Paper.Off wish)) ∷ ((notary_hears (Paper.Off wish), sends (Paper.Notice off)) ∷ ((first_hears (Paper.Notice off), quiet) ∷ ((first_hears (Paper.Acceptance acceptance), refused 6)
      ∷ ((second_asks, sends (question 2 acceptance)) ∷ ((notary_hears (question 2 acceptance), sends (Paper.Notice off)) ∷ ((second_hears (Paper.Notice off), quiet) ∷ []))))));
  first = free;
  second = free;
  book = is_off;
  worth = is_notary's_off off ∷ [];
}

-- The acceptance is lost, both ask, and the first side is first with the notary.
abbrev pub row_c_off : Row
row_c_off = record {
  course = (first_asks, sends (Paper.Off wish)) ∷ ((second_asks, sends (question 2 acceptance)) ∷ ((notary_hears (Paper.Off wish), sends (Paper.Notice off)) ∷ ((notary_hears (question 2 acceptance), sends (Paper.Notice off))
      ∷ ((first_hears (Paper.Notice off), quiet) ∷ ((second_hears (Paper.Notice off), quiet) ∷ [])))));
  first = free;
  second = free;
  book = is_off;
  worth = is_notary's_off off ∷ [];
}

-- The same, and the second side is first with the notary.
abbrev pub row_c_stands : Row
row_c_stands = record {
  course = (first_asks, sends (Paper.Off wish)) ∷ ((second_asks, sends (question 2 acceptance)) ∷ ((notary_hears (question 2 acceptance), sends (Paper.Notice (stands acceptance))) ∷ ((notary_hears (Paper.Off wish), sends (Paper.Notice (stands acceptance)))
      ∷ ((first_hears (Paper.Notice (stands acceptance)), quiet) ∷ ((second_hears (Paper.Notice (stands acceptance)), quiet) ∷ [])))));
  first = bound_by_stands;
  second = bound_by_stands;
  book = is_standing;
  worth = is_contract (Contract.Stands (record { acceptance = acceptance; stamp = (stands acceptance).stamp; signature = (stands acceptance).signature })) ∷ [];
}

-- Acceptance and first secret, then silence: the first asks by the acceptance, and it stands.
abbrev pub row_d : Row
row_d = record {
  course = (first_hears (Paper.Acceptance acceptance), sends first_secret) ∷ ((first_asks, sends (question 1 acceptance)) ∷ ((notary_hears (question 1 acceptance), sends (Paper.Notice (stands acceptance))) ∷ ((first_hears (Paper.Notice (stands acceptance)), quiet) ∷ [])));
  first = bound_by_stands;
  second = going_on;
  book = is_standing;
  worth = is_contract (Contract.Stands (record { acceptance = acceptance; stamp = (stands acceptance).stamp; signature = (stands acceptance).signature })) ∷ [];
}

-- The first side calls off, and its secret is said all the same: the second, which has not asked, says its own. A contract, beside which the Off is worth nothing.
abbrev pub row_e : Row
row_e = record {
  course = (first_asks, sends (Paper.Off wish)) ∷ ((notary_hears (Paper.Off wish), sends (Paper.Notice off)) ∷ ((second_hears first_secret, sends second_secret) ∷ []));
  first = going_on;
  second = bound_by_secrets;
  book = is_off;
  worth = is_contract (Contract.Secrets acceptance x₁ x₂) ∷ (is_notary's_off off ∷ []);
}

-- The second side signs two acceptances: the first side keeps the first one, and the other one stands. A contract all the same.
abbrev pub row_f : Row
row_f = record {
  course = (first_hears (Paper.Acceptance acceptance), sends first_secret) ∷ ((first_hears (Paper.Acceptance other_acceptance), refused 6) ∷ ((notary_hears (question 2 other_acceptance), sends (Paper.Notice (stands other_acceptance)))
      ∷ ((first_asks, sends (question 1 acceptance)) ∷ ((notary_hears (question 1 acceptance), sends (Paper.Notice (stands other_acceptance))) ∷ ((first_hears (Paper.Notice (stands other_acceptance)), quiet) ∷ [])))));
  first = bound_by_stands;
  second = going_on;
  book = is_standing;
  worth = is_contract (Contract.Stands (record { acceptance = other_acceptance; stamp = (stands other_acceptance).stamp; signature = (stands other_acceptance).signature })) ∷ [];
}

-- Off and Stands of one offer: the notary cheated.
abbrev pub row_g : Row
row_g = record {
  course = (first_asks, sends (Paper.Off wish)) ∷ ((second_asks, sends (question 2 acceptance)) ∷ ((first_hears (Paper.Notice off), quiet) ∷ ((second_hears (Paper.Notice (stands acceptance)), quiet) ∷ [])));
  first = free;
  second = bound_by_stands;
  book = nothing;
  worth = notary_cheated off (stands acceptance) ∷ [];
}

abbrev pub table : List Row
table = row_a ∷ (row_b ∷ (row_c_off ∷ (row_c_stands ∷ (row_d ∷ (row_e ∷ (row_f ∷ (row_g ∷ [])))))))

-- ---- WHEN A ROW HOLDS
-- both sides as they are after offer and acceptance, and an empty book
pub record Play : Type 0 where
  pub first : Exchange
  pub second : Exchange
  pub book : Option Notice

abbrev pub begun : Play
begun = record {
  first = opened C (setting.sign (Party.Side 1)) First offer x₁ Offered;
  second = opened C (setting.sign (Party.Side 2)) Second offer x₂ (Accepted acceptance);
  book = None;
}

abbrev pub same_paper : Paper → Paper → Bool
same_paper x y = bytes_eq (paper_bytes x) (paper_bytes y)

abbrev pub came : Effect → Effects → Bool
came Nothing quiet = true
came Nothing (sends x) = false
came Nothing (refused n) = false
came (Send m) quiet = false
came (Send m) (sends x) = same_paper m.paper x
came (Send m) (refused n) = false
came Full quiet = false
came Full (sends x) = false
came Full (refused n) = false

abbrev pub did : Result Effect ℕ → Effects → Bool
did (Ok f) x = came f x
did (Err n) quiet = false
did (Err n) (sends x) = false
did (Err n) (refused m) = n == m

abbrev pub decided : Result Decision ℕ → Effects → Bool
decided (Ok d) quiet = false
decided (Ok d) (sends x) = same_paper d.answer x
decided (Ok d) (refused n) = false
decided (Err n) quiet = false
decided (Err n) (sends x) = false
decided (Err n) (refused m) = n == m

abbrev pub written : Option Notice → Option Notice → Option Notice
written (Some n) old = Some n
written None old = old

abbrev pub book_after : Result Decision ℕ → Option Notice → Option Notice
book_after (Ok d) old = written d.write old
book_after (Err n) old = old

-- one event: what comes after it, and whether it came to what was expected
abbrev pub event : Play → Event → Effects → Play × Bool
event s (first_hears x) f = let d : Outcome = receive C s.first x in (record { first = d.0; second = s.second; book = s.book }, did d.1 f)
event s (second_hears x) f = let d : Outcome = receive C s.second x in (record { first = s.first; second = d.0; book = s.book }, did d.1 f)
event s first_asks f = let d : Outcome = ask C (setting.sign (Party.Side 1)) s.first in (record { first = d.0; second = s.second; book = s.book }, did d.1 f)
event s second_asks f = let d : Outcome = ask C (setting.sign (Party.Side 2)) s.second in (record { first = s.first; second = d.0; book = s.book }, did d.1 f)
event s (notary_hears x) f =
    let d : Result Decision ℕ = decide C (setting.sign (Party.Notary 1)) 1 0 (row_in s.book) true x in
    (record { first = s.first; second = s.second; book = book_after d s.book }, decided d f)

abbrev pub by_papers : Contract → End → Bool
by_papers (Contract.Secrets a x y) going_on = false
by_papers (Contract.Secrets a x y) bound_by_secrets = true
by_papers (Contract.Secrets a x y) bound_by_stands = false
by_papers (Contract.Secrets a x y) free = false
by_papers (Contract.Stands s) going_on = false
by_papers (Contract.Stands s) bound_by_secrets = false
by_papers (Contract.Stands s) bound_by_stands = true
by_papers (Contract.Stands s) free = false

abbrev pub still_open : End → Bool
still_open going_on = true
still_open bound_by_secrets = false
still_open bound_by_stands = false
still_open free = false

abbrev pub freed : End → Bool
freed going_on = false
freed bound_by_secrets = false
freed bound_by_stands = false
freed free = true

abbrev pub ends_as : State → End → Bool
ends_as Offered x = still_open x
ends_as (AskedOff w t) x = still_open x
ends_as (Said a) x = still_open x
ends_as (AskedStands q t) x = still_open x
ends_as (Accepted a) x = still_open x
ends_as (Asked q t) x = still_open x
ends_as (Bound c) x = by_papers c x
ends_as (Free n) x = freed x

abbrev pub is_finding : Finding → Book → Bool
is_finding (CalledOff f) nothing = false
is_finding (CalledOff f) is_off = true
is_finding (CalledOff f) is_standing = false
is_finding (Standing a) nothing = false
is_finding (Standing a) is_off = false
is_finding (Standing a) is_standing = true

abbrev pub no_row : Book → Bool
no_row nothing = true
no_row is_off = false
no_row is_standing = false

abbrev pub has : Option Notice → Book → Bool
has None b = no_row b
has (Some n) b = is_finding n.finding b

abbrev pub is_worth : Worth → Bool
is_worth (is_contract c) = contract C c
is_worth (is_notary's_off n) = sound C (Paper.Notice n) && is_finding n.finding is_off
is_worth (notary_cheated f s) = cheated C f s

abbrev pub all_worth : List Worth → Bool
all_worth [] = true
all_worth (x ∷ xs) = is_worth x && all_worth xs

-- the course is run to its end, and all comes out as the row says
abbrev pub plays : Play → List (Event × Effects) → Row → Bool
plays s [] r = ends_as s.first.state r.first && (ends_as s.second.state r.second && (has s.book r.book && all_worth r.worth))
plays s (x ∷ xs) r = (event s x.0 x.1).1 && plays (event s x.0 x.1).0 xs r

abbrev pub holds : Row → Bool
holds r = plays begun r.course r

abbrev pub all_hold : List Row → Bool
all_hold [] = true
all_hold (r ∷ rs) = holds r && all_hold rs

-- EVERY ROW OF THE TABLE HOLDS
abbrev pub RowsHold : Type 0
RowsHold = all_hold table ≡ true
