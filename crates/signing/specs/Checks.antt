-- What anybody can check of a paper by itself: its parties, and its signatures. Assumes nothing.
use Rattle.std.specs.Prelude.{ℕ, Bool, true, cond, not, ◌&&◌, ◌||◌, Some, None, Ok, Err, Option, Result, ◌==◌}
use Rattle.papers.specs.declared.Party.{Party}
use Rattle.papers.specs.declared.Stamp.{Stamp}
use Rattle.papers.specs.declared.Offer.{Offer}
use Rattle.papers.specs.declared.Acceptance.{Acceptance}
use Rattle.papers.specs.declared.Off.{Off}
use Rattle.papers.specs.declared.Finding.{Finding}
use Rattle.papers.specs.declared.Finding.TheVariants.{CalledOff, Standing}
use Rattle.papers.specs.declared.Notice.{Notice}
use Rattle.papers.specs.declared.Refusal.{Refusal}
use Rattle.papers.specs.declared.Question.{Question}
use Rattle.papers.specs.declared.Paper.{Paper}
use Rattle.papers.specs.declared.Fault.{Fault}
use Rattle.papers.specs.Fault.{number}
use Rattle.papers.specs.Encoding.{Bytes, offer_head, offer_bytes, acceptance_head, off_head, notice_head, refusal_head, question_head, about}
use Rattle.signing.specs.Scheme.{Scheme}

-- the number of the fault in an answer, if it is one
abbrev pub fault_in : {X : Type 0} → Result X Fault → Option ℕ
fault_in (Ok x) = None
fault_in (Err f) = Some (number f)

-- an answer of the code, with its fault by number
abbrev pub by_number : {X : Type 0} → Result X Fault → Result X ℕ
by_number (Ok x) = Ok x
by_number (Err f) = Err (number f)

-- a test, the number where it fails, and what is tested after it
abbrev pub else_fault : Bool → ℕ → Option ℕ → Option ℕ
else_fault test n then = cond test then (Some n)

-- what is signed just now, if the signature passes; else 3
abbrev pub passing : {X : Type 0} → (X → Bool) → X → Result X ℕ
passing passes x = cond (passes x) (Ok x) (Err 3)

abbrev pub and_then : Option ℕ → Option ℕ → Option ℕ
and_then None then = then
and_then (Some n) then = Some n

-- the offer is between this side and another
abbrev pub party_of : ℕ → Offer → Bool
party_of p o = o.first == p || o.second == p

-- by the stamp: the notary whose notice it is, of an offer that names this one
abbrev pub by_stamp : Stamp → (named : ℕ) → ℕ
by_stamp Stamp.Plain n = n

abbrev pub notary_of : Notice → ℕ
notary_of n = by_stamp n.stamp (about n.finding).notary

module _ (S : Scheme) where
  -- an offer is known by the digest of its bytes, the signature included
  abbrev pub ident : Offer → Bytes
  ident o = S.digest (offer_bytes o)

  -- ---- one signature each, on the head of its paper
  unfoldable pub offer_signed : Offer → Bool
  offer_signed o = S.accepts (Party.Side o.first) (offer_head o) o.signature

  unfoldable pub acceptance_signed : Acceptance → Bool
  acceptance_signed a = S.accepts (Party.Side a.offer.second) (acceptance_head a) a.signature

  unfoldable pub off_signed : Off → Bool
  off_signed f = S.accepts (Party.Side f.offer.first) (off_head f) f.signature

  unfoldable pub notice_signed : Notice → Bool
  notice_signed n = S.accepts (Party.Notary (notary_of n)) (notice_head n) n.signature

  -- a refusal does not say whose it is
  unfoldable pub refusal_signed : ℕ → Refusal → Bool
  refusal_signed n r = S.accepts (Party.Notary n) (refusal_head r) r.signature

  unfoldable pub question_signed : Question → Bool
  question_signed q = S.accepts (Party.Side q.side) (question_head q) q.signature

  -- ---- a paper with the papers in it
  -- who is named is there, and first and second differ
  abbrev pub parties_known : Offer → Bool
  parties_known o = S.lists (Party.Side o.first) && (S.lists (Party.Side o.second) && (S.lists (Party.Notary o.notary) && not (o.first == o.second)))

  abbrev pub known : Paper → Bool
  known (Paper.Offer o) = parties_known o
  known (Paper.Acceptance a) = parties_known a.offer
  known (Paper.Secret s) = true
  known (Paper.Off f) = parties_known f.offer
  known (Paper.Notice n) = parties_known (about n.finding)
  known (Paper.Refusal r) = true
  known (Paper.Question q) = parties_known q.acceptance.offer && S.lists (Party.Side q.side)

  abbrev pub accepted : Acceptance → Bool
  accepted a = offer_signed a.offer && acceptance_signed a

  abbrev pub finding_signed : Finding → Bool
  finding_signed (CalledOff f) = offer_signed f.offer && off_signed f
  finding_signed (Standing a) = accepted a

  -- every signature in it is right; that of a refusal is another matter
  abbrev pub signed : Paper → Bool
  signed (Paper.Offer o) = offer_signed o
  signed (Paper.Acceptance a) = accepted a
  signed (Paper.Secret s) = true
  signed (Paper.Off f) = finding_signed (CalledOff f)
  signed (Paper.Notice n) = finding_signed n.finding && notice_signed n
  signed (Paper.Refusal r) = true
  signed (Paper.Question q) = accepted q.acceptance && question_signed q

  -- THE FAULT OF A PAPER BY ITSELF: 2, else 3, or none
  unfoldable pub vetted : Paper → Option ℕ
  vetted x = cond (known x) (cond (signed x) None (Some 3)) (Some 2)

  unfoldable pub sound : Paper → Bool
  sound x = known x && signed x
