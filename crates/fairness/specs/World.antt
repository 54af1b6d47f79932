-- Sides and notaries that keep to the rules, among messages that anybody may make up, hold back, repeat or send late. Assumes nothing.
use Rattle.std.specs.Prelude.{◌≡◌, ℕ, ◌≤◌, Bool, cond, ◌&&◌, T, ◌⊎◌, List, [], ◌∷◌, ◌++◌, Some, None, Ok, Err, Option, Result, ◌==◌, ◌≢◌}
use Rattle.std.specs.Str.{bytes_eq}
use Rattle.papers.specs.declared.Party.{Party}
use Rattle.papers.specs.declared.Offer.{Offer}
use Rattle.papers.specs.declared.Acceptance.{Acceptance}
use Rattle.papers.specs.declared.Off.{Off}
use Rattle.papers.specs.declared.Finding.{Finding}
use Rattle.papers.specs.declared.Finding.TheVariants.{CalledOff, Standing}
use Rattle.papers.specs.declared.Notice.{Notice}
use Rattle.papers.specs.declared.Paper.{Paper}
use Rattle.papers.specs.Encoding.{Bytes, offer_head, acceptance_head, secret_bytes, off_head, notice_head, refusal_head, question_head, about, Number, Digest, Signature, OfferSized, AcceptanceSized, NoticeSized, Sized}
use Rattle.signing.specs.Scheme.{Scheme}
use Rattle.signing.specs.Checks.{ident, notary_of}
use Rattle.contract.specs.declared.Contract.{Contract}
use Rattle.contract.specs.Contract.{notice_of}
use Rattle.exchange.specs.declared.Exchange.{Exchange}
use Rattle.exchange.specs.declared.Post.{Post}
use Rattle.exchange.specs.declared.Effect.{Effect}
use Rattle.exchange.specs.declared.Effect.TheVariants.{Nothing, Send, Full}
use Rattle.exchange.specs.declared.Order.{Order}
use Rattle.exchange.specs.Steps.{Outcome, receive, offer, accept, ask, tick}
use Rattle.notary.specs.declared.Row.{Row}
use Rattle.notary.specs.declared.Decision.{Decision}
use Rattle.notary.specs.Decision.{row_of, decide}

-- the digest, the signatures, the directory; each party's own signing; who keeps to the rules
pub record Setting : Type 0 where
  pub scheme : Scheme
  pub sign : Party → Bytes → Bytes
  pub honest : Party → Bool

pub record Laws (S : Setting) : Type 0 where
  pub digest_size : (x : Bytes) → Digest (S.scheme.digest x)
  pub sign_size : (p : Party) (m : Bytes) → Signature (S.sign p m)

abbrev pub In : {A : Type 0} → A → List A → Type 0
In x [] = ⊥
In x (y ∷ ys) = (x ≡ y) ⊎ In x ys

-- ---- what is signed of a paper, and the signature behind it
abbrev pub head : Paper → Bytes
head (Paper.Offer o) = offer_head o
head (Paper.Acceptance a) = acceptance_head a
head (Paper.Secret s) = secret_bytes s
head (Paper.Off f) = off_head f
head (Paper.Notice n) = notice_head n
head (Paper.Refusal r) = refusal_head r
head (Paper.Question q) = question_head q

abbrev pub signature_of : Paper → Bytes
signature_of (Paper.Offer o) = o.signature
signature_of (Paper.Acceptance a) = a.signature
signature_of (Paper.Secret s) = []
signature_of (Paper.Off f) = f.signature
signature_of (Paper.Notice n) = n.signature
signature_of (Paper.Refusal r) = r.signature
signature_of (Paper.Question q) = q.signature

-- a signature that honest code has made: by whom, on which bytes
pub record Entry : Type 0 where
  pub by : Party
  pub message : Bytes
  pub signature : Bytes

-- p's signature on the paper x
abbrev pub entry : Party → Paper → Entry
entry p x = record { by = p; message = head x; signature = signature_of x }

-- what honest sides have, each by its number and the offer's id; what honest notaries have in their books, and their clocks;
-- what honest code has signed; the secrets that are out: that honest code has said, or that came in some message
pub record World : Type 0 where
  pub sides : ℕ → Bytes → Option Exchange
  pub books : ℕ → Bytes → Option Notice
  pub clocks : ℕ → ℕ
  pub log : List Entry
  pub out : List Bytes

abbrev pub start : World
start = record { sides = λ p k. None; books = λ n k. None; clocks = λ n. 0; log = []; out = [] }

unfoldable pub set : {A : Type 0} → ℕ → Bytes → A → (ℕ → Bytes → Option A) → ℕ → Bytes → Option A
set n k a f m j = cond (m == n && bytes_eq j k) (Some a) (f m j)

-- ---- what a step adds to the log and to the secrets that are out
abbrev pub made : ℕ → Paper → List Entry
made p (Paper.Offer o) = entry (Party.Side p) (Paper.Offer o) ∷ []
made p (Paper.Acceptance a) = entry (Party.Side p) (Paper.Acceptance a) ∷ []
made p (Paper.Secret s) = []
made p (Paper.Off f) = entry (Party.Side p) (Paper.Off f) ∷ []
made p (Paper.Notice n) = []
made p (Paper.Refusal r) = []
made p (Paper.Question q) = entry (Party.Side p) (Paper.Question q) ∷ []

abbrev pub secrets_in : Paper → List Bytes
secrets_in (Paper.Offer o) = []
secrets_in (Paper.Acceptance a) = []
secrets_in (Paper.Secret s) = s.secret ∷ []
secrets_in (Paper.Off f) = []
secrets_in (Paper.Notice n) = []
secrets_in (Paper.Refusal r) = []
secrets_in (Paper.Question q) = []

abbrev pub signed : ℕ → Effect → List Entry
signed p Nothing = []
signed p (Send m) = made p m.paper
signed p Full = []

abbrev pub told : Effect → List Bytes
told Nothing = []
told (Send m) = secrets_in m.paper
told Full = []

-- a refused step does nothing
abbrev pub effect_in : Result Effect ℕ → Effect
effect_in (Ok f) = f
effect_in (Err n) = Nothing

-- the side p has now e in the exchange k, with the effect f, after a message with the secrets heard
abbrev pub after_side : World → ℕ → Bytes → Exchange → Effect → List Bytes → World
after_side w p k e f heard = record {
  sides = set p k e w.sides;
  books = w.books;
  clocks = w.clocks;
  log = signed p f ++ w.log;
  out = told f ++ (heard ++ w.out);
}

abbrev pub after_outcome : World → ℕ → Bytes → Outcome → List Bytes → World
after_outcome w p k d heard = after_side w p k d.0 (effect_in d.1) heard

-- what a notary's book has for an offer
abbrev pub row_in : Option Notice → Row
row_in None = Row.Nothing
row_in (Some n) = row_of n

-- the offer that a question is about
abbrev pub offer_asked : Paper → Option Offer
offer_asked (Paper.Offer o) = None
offer_asked (Paper.Acceptance a) = None
offer_asked (Paper.Secret s) = None
offer_asked (Paper.Off f) = Some f.offer
offer_asked (Paper.Notice n) = None
offer_asked (Paper.Refusal r) = None
offer_asked (Paper.Question q) = Some q.acceptance.offer

pub record OrderSized (d : Order) : Type 0 where
  pub first : Number d.first
  pub second : Number d.second
  pub notary : Number d.notary
  pub text : Digest d.text
  pub secret : Digest d.secret

module _ (S : Setting) where
  abbrev pub id_of : Offer → Bytes
  id_of o = ident S.scheme o

  -- THE LAW OF SIGNATURES: one that is accepted for an honest party was made by it, this very signature on these very bytes
  abbrev pub Backed : World → Party → Paper → Type 0
  Backed w p x = T (S.honest p) → T (S.scheme.accepts p (head x) (signature_of x)) → In (entry p x) w.log

  abbrev pub OfferBacked : World → Offer → Type 0
  OfferBacked w o = Backed w (Party.Side o.first) (Paper.Offer o)

  abbrev pub AcceptanceBacked : World → Acceptance → Type 0
  AcceptanceBacked w a = OfferBacked w a.offer × Backed w (Party.Side a.offer.second) (Paper.Acceptance a)

  abbrev pub OffBacked : World → Off → Type 0
  OffBacked w f = OfferBacked w f.offer × Backed w (Party.Side f.offer.first) (Paper.Off f)

  abbrev pub FindingBacked : World → Finding → Type 0
  FindingBacked w (CalledOff f) = OffBacked w f
  FindingBacked w (Standing a) = AcceptanceBacked w a

  abbrev pub NoticeBacked : World → Notice → Type 0
  NoticeBacked w n = FindingBacked w n.finding × Backed w (Party.Notary (notary_of n)) (Paper.Notice n)

  -- THE LAW OF SECRETS: one that an honest side has drawn is known to others only if it is out
  abbrev pub SecretPossible : World → Bytes → Type 0
  SecretPossible w x = (p : ℕ) (k : Bytes) (e : Exchange) → w.sides p k ≡ Some e → e.secret ≡ x → In x w.out

  abbrev pub PaperBacked : World → Paper → Type 0
  PaperBacked w (Paper.Offer o) = OfferBacked w o
  PaperBacked w (Paper.Acceptance a) = AcceptanceBacked w a
  PaperBacked w (Paper.Secret s) = SecretPossible w s.secret
  PaperBacked w (Paper.Off f) = OffBacked w f
  PaperBacked w (Paper.Notice n) = NoticeBacked w n
  PaperBacked w (Paper.Refusal r) = Unit {0}
  PaperBacked w (Paper.Question q) = AcceptanceBacked w q.acceptance × Backed w (Party.Side q.side) (Paper.Question q)

  -- MESSAGES THAT SOMEBODY CAN SEND: each field fits its place, and the two laws hold of what is in it
  abbrev pub Possible : World → Paper → Type 0
  Possible w x = Sized x × PaperBacked w x

  -- papers that somebody can show
  abbrev pub AtHand : World → Contract → Type 0
  AtHand w (Contract.Secrets a x y) = AcceptanceSized a × AcceptanceBacked w a × SecretPossible w x × SecretPossible w y
  AtHand w (Contract.Stands s) = NoticeSized (notice_of s) × NoticeBacked w (notice_of s)

  -- a secret that is drawn is none that was drawn by an honest side before, and none that is out
  abbrev pub Fresh : World → Bytes → Type 0
  Fresh w x = ((p : ℕ) (k : Bytes) (e : Exchange) → w.sides p k ≡ Some e → e.secret ≢ x) × (In x w.out → ⊥)

  -- ---- the notary's step
  abbrev pub book_row : World → ℕ → Option Offer → Row
  book_row w n None = Row.Nothing
  book_row w n (Some o) = row_in (w.books n (id_of o))

  abbrev pub decides : World → ℕ → Bool → Paper → Result Decision ℕ
  decides w n room x = decide S.scheme (S.sign (Party.Notary n)) n (w.clocks n) (book_row w n (offer_asked x)) room x

  abbrev pub write : ℕ → Option Notice → (ℕ → Bytes → Option Notice) → ℕ → Bytes → Option Notice
  write n None books = books
  write n (Some m) books = set n (id_of (about m.finding)) m books

  abbrev pub after_decision : World → ℕ → Result Decision ℕ → World
  after_decision w n (Err k) = w
  after_decision w n (Ok d) = record { sides = w.sides; books = write n d.write w.books; clocks = w.clocks; log = entry (Party.Notary n) d.answer ∷ w.log; out = w.out }

  abbrev pub after_clock : World → ℕ → ℕ → World
  after_clock w n c = record { sides = w.sides; books = w.books; clocks = λ m. cond (m == n) c (w.clocks m); log = w.log; out = w.out }

  -- ---- ONLY HONEST PARTICIPANTS MOVE; the others are the freedom in the messages
  pub data Step (w : World) : World → Type 0 where
    -- a side is told to make an offer
    offers : (d : Order) (e : Exchange) (m : Post) → T (S.honest (Party.Side d.first)) → OrderSized d → Fresh w d.secret → offer S.scheme (S.sign (Party.Side d.first)) d ≡ Ok (e, m) → w.sides d.first e.id ≡ None →
        Step w (after_side w d.first e.id e (Send m) [])
    -- a side is told to accept an offer
    accepts : (p : ℕ) (o : Offer) (x : Bytes) (e : Exchange) (m : Post) → T (S.honest (Party.Side p)) → OfferSized o → OfferBacked w o → Digest x → Fresh w x → accept S.scheme (S.sign (Party.Side p)) p o x ≡ Ok (e, m) → w.sides p e.id ≡ None →
        Step w (after_side w p e.id e (Send m) [])
    -- a side is told to ask
    asks : (p : ℕ) (k : Bytes) (e : Exchange) → T (S.honest (Party.Side p)) → w.sides p k ≡ Some e → Step w (after_outcome w p k (ask S.scheme (S.sign (Party.Side p)) e) [])
    -- time passes for a side
    ticks : (p : ℕ) (k : Bytes) (e : Exchange) → T (S.honest (Party.Side p)) → w.sides p k ≡ Some e → Step w (after_side w p k (tick e).0 (tick e).1 [])
    -- a message comes to a side
    hears : (p : ℕ) (k : Bytes) (e : Exchange) (x : Paper) → T (S.honest (Party.Side p)) → w.sides p k ≡ Some e → Possible w x → Step w (after_outcome w p k (receive S.scheme e x) (secrets_in x))
    -- a message comes to a notary, whose asking side has room or not
    asked : (n : ℕ) (room : Bool) (x : Paper) → T (S.honest (Party.Notary n)) → Possible w x → Step w (after_decision w n (decides w n room x))
    -- a notary's clock goes on, and never back
    clock : (n c : ℕ) → w.clocks n ≤ c → Step w (after_clock w n c)

  pub data Run (w : World) : World → Type 0 where
    stay : Run w w
    more : {v u : World} → Run w v → Step v u → Run w u

  abbrev pub Reach : World → Type 0
  Reach w = Run start w
