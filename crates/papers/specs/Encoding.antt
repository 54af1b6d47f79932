-- The bytes of each paper, and the part of them that is signed. Assumes nothing.
use Rattle.std.specs.Prelude.{◌≡◌, ℕ, ◌<◌, List, [], ◌∷◌, ◌++◌, length}
use Rattle.octets.specs.Octets.{be16}
use Rattle.papers.specs.declared.encode.Kind.{Kind}
use Rattle.papers.specs.declared.Terms.{Terms}
use Rattle.papers.specs.declared.Stamp.{Stamp}
use Rattle.papers.specs.declared.Offer.{Offer}
use Rattle.papers.specs.declared.Acceptance.{Acceptance}
use Rattle.papers.specs.declared.Secret.{Secret}
use Rattle.papers.specs.declared.Off.{Off}
use Rattle.papers.specs.declared.Finding.{Finding}
use Rattle.papers.specs.declared.Finding.TheVariants.{CalledOff, Standing}
use Rattle.papers.specs.declared.Notice.{Notice}
use Rattle.papers.specs.declared.Refusal.{Refusal}
use Rattle.papers.specs.declared.Question.{Question}
use Rattle.papers.specs.declared.Paper.{Paper}

abbrev pub Bytes : Type 0
Bytes = List ℕ

-- ---- kinds, and their bytes
abbrev pub kind_byte : Kind → ℕ
kind_byte Kind.Plain = 1
kind_byte Kind.Acceptance = 2
kind_byte Kind.Secret = 3
kind_byte Kind.Off = 4
kind_byte Kind.Stands = 5
kind_byte Kind.Refusal = 6
kind_byte Kind.Question = 7

-- ---- by the terms: an offer's kind byte, and what it says more after the notary
abbrev pub terms_kind : Terms → ℕ
terms_kind Terms.Plain = 1

abbrev pub terms_bytes : Terms → Bytes
terms_bytes Terms.Plain = []

-- what a notice says more, before its signature
abbrev pub stamp_bytes : Stamp → Bytes
stamp_bytes Stamp.Plain = []

-- ---- papers: the head is what is signed, and the signature follows it
unfoldable pub offer_head : Offer → Bytes
offer_head o = terms_kind o.terms ∷ (be16 o.first ++ (be16 o.second ++ (be16 o.notary ++ (terms_bytes o.terms ++ (o.text ++ o.lock)))))

unfoldable pub offer_bytes : Offer → Bytes
offer_bytes o = offer_head o ++ o.signature

unfoldable pub acceptance_head : Acceptance → Bytes
acceptance_head a = 2 ∷ (offer_bytes a.offer ++ a.lock)

unfoldable pub acceptance_bytes : Acceptance → Bytes
acceptance_bytes a = acceptance_head a ++ a.signature

-- a secret is not signed
unfoldable pub secret_bytes : Secret → Bytes
secret_bytes s = 3 ∷ (s.offer ++ (s.lock ++ s.secret))

unfoldable pub off_head : Off → Bytes
off_head f = 4 ∷ offer_bytes f.offer

unfoldable pub off_bytes : Off → Bytes
off_bytes f = off_head f ++ f.signature

-- the notary signs the first side's wish, or an acceptance under a kind byte of its own
unfoldable pub finding_bytes : Finding → Bytes
finding_bytes (CalledOff f) = off_bytes f
finding_bytes (Standing a) = 5 ∷ acceptance_bytes a

abbrev pub finding_length : Finding → ℕ
finding_length (CalledOff f) = 200
finding_length (Standing a) = 233

unfoldable pub notice_head : Notice → Bytes
notice_head n = finding_bytes n.finding ++ stamp_bytes n.stamp

unfoldable pub notice_bytes : Notice → Bytes
notice_bytes n = notice_head n ++ n.signature

-- the notary's two papers under plain terms: his Off, and his Stands
abbrev pub off_notice : Off → Bytes → Notice
off_notice f s = record { finding = CalledOff f; stamp = Stamp.Plain; signature = s }

abbrev pub stands_notice : Acceptance → Bytes → Notice
stands_notice a s = record { finding = Standing a; stamp = Stamp.Plain; signature = s }

-- the fault's number stands behind the offer's id
unfoldable pub refusal_head : Refusal → Bytes
refusal_head r = 6 ∷ (r.offer ++ 9 ∷ [])

unfoldable pub refusal_bytes : Refusal → Bytes
refusal_bytes r = refusal_head r ++ r.signature

unfoldable pub question_head : Question → Bytes
question_head q = 7 ∷ (be16 q.side ++ acceptance_bytes q.acceptance)

unfoldable pub question_bytes : Question → Bytes
question_bytes q = question_head q ++ q.signature

unfoldable pub paper_bytes : Paper → Bytes
paper_bytes (Paper.Offer o) = offer_bytes o
paper_bytes (Paper.Acceptance a) = acceptance_bytes a
paper_bytes (Paper.Secret s) = secret_bytes s
paper_bytes (Paper.Off f) = off_bytes f
paper_bytes (Paper.Notice n) = notice_bytes n
paper_bytes (Paper.Refusal r) = refusal_bytes r
paper_bytes (Paper.Question q) = question_bytes q

-- the offer that a finding is about
abbrev pub about : Finding → Offer
about (CalledOff f) = f.offer
about (Standing a) = a.offer

-- ---- each field fits its place; of a value of the code's types this always holds
abbrev pub Number : ℕ → Type 0
Number n = n < 65536

abbrev pub Digest : Bytes → Type 0
Digest x = length x ≡ 32

abbrev pub Signature : Bytes → Type 0
Signature x = length x ≡ 64

pub record OfferSized (o : Offer) : Type 0 where
  pub first : Number o.first
  pub second : Number o.second
  pub notary : Number o.notary
  pub text : Digest o.text
  pub lock : Digest o.lock
  pub signature : Signature o.signature

pub record AcceptanceSized (a : Acceptance) : Type 0 where
  pub offer : OfferSized a.offer
  pub lock : Digest a.lock
  pub signature : Signature a.signature

pub record SecretSized (s : Secret) : Type 0 where
  pub offer : Digest s.offer
  pub lock : Digest s.lock
  pub secret : Digest s.secret

pub record OffSized (f : Off) : Type 0 where
  pub offer : OfferSized f.offer
  pub signature : Signature f.signature

abbrev pub FindingSized : Finding → Type 0
FindingSized (CalledOff f) = OffSized f
FindingSized (Standing a) = AcceptanceSized a

-- a stamp goes with the terms of the offer
abbrev pub StampFits : Terms → Stamp → Type 0
StampFits Terms.Plain Stamp.Plain = Unit {0}

pub record NoticeSized (n : Notice) : Type 0 where
  pub finding : FindingSized n.finding
  pub stamp : StampFits (about n.finding).terms n.stamp
  pub signature : Signature n.signature

pub record RefusalSized (r : Refusal) : Type 0 where
  pub offer : Digest r.offer
  pub signature : Signature r.signature

pub record QuestionSized (q : Question) : Type 0 where
  pub side : Number q.side
  pub acceptance : AcceptanceSized q.acceptance
  pub signature : Signature q.signature

abbrev pub Sized : Paper → Type 0
Sized (Paper.Offer o) = OfferSized o
Sized (Paper.Acceptance a) = AcceptanceSized a
Sized (Paper.Secret s) = SecretSized s
Sized (Paper.Off f) = OffSized f
Sized (Paper.Notice n) = NoticeSized n
Sized (Paper.Refusal r) = RefusalSized r
Sized (Paper.Question q) = QuestionSized q
