-- The paper that bytes hold, and that no bytes hold two. Assumes nothing.
use Rattle.std.specs.Prelude.{◌≡◌, ℕ, cond, length, drop, ◌==◌, slice_index}
use Rattle.octets.specs.Octets.{at16, cut}
use Rattle.papers.specs.declared.Terms.{Terms}
use Rattle.papers.specs.declared.Offer.{Offer}
use Rattle.papers.specs.declared.Acceptance.{Acceptance}
use Rattle.papers.specs.declared.Secret.{Secret}
use Rattle.papers.specs.declared.Off.{Off}
use Rattle.papers.specs.declared.Notice.{Notice}
use Rattle.papers.specs.declared.Refusal.{Refusal}
use Rattle.papers.specs.declared.Question.{Question}
use Rattle.papers.specs.declared.Paper.{Paper}
use Rattle.papers.specs.Encoding.{Bytes, off_notice, stands_notice, paper_bytes, Sized}

-- ---- the paper that bytes begin with
unfoldable pub offer_at : Bytes → Offer
offer_at b = record { first = at16 b 1; second = at16 b 3; notary = at16 b 5; terms = Terms.Plain; text = cut 7 32 b; lock = cut 39 32 b; signature = cut 71 64 b }

unfoldable pub acceptance_at : Bytes → Acceptance
acceptance_at b = record { offer = offer_at (drop 1 b); lock = cut 136 32 b; signature = cut 168 64 b }

unfoldable pub secret_at : Bytes → Secret
secret_at b = record { offer = cut 1 32 b; lock = cut 33 32 b; secret = cut 65 32 b }

unfoldable pub off_at : Bytes → Off
off_at b = record { offer = offer_at (drop 1 b); signature = cut 136 64 b }

unfoldable pub off_notice_at : Bytes → Notice
off_notice_at b = off_notice (off_at b) (cut 200 64 b)

unfoldable pub stands_notice_at : Bytes → Notice
stands_notice_at b = stands_notice (acceptance_at (drop 1 b)) (cut 233 64 b)

unfoldable pub refusal_at : Bytes → Refusal
refusal_at b = record { offer = cut 1 32 b; signature = cut 34 64 b }

unfoldable pub question_at : Bytes → Question
question_at b = record { side = at16 b 1; acceptance = acceptance_at (drop 3 b); signature = cut 235 64 b }

-- an Off is the notary's where 64 bytes more come
abbrev pub off_paper_at : Bytes → Paper
off_paper_at b = cond (length b == 200) (Paper.Off (off_at b)) (Paper.Notice (off_notice_at b))

-- by the kind byte
abbrev pub paper_by : ℕ → Bytes → Paper
paper_by k b =
    cond (k == 1) (Paper.Offer (offer_at b))
    (cond (k == 2) (Paper.Acceptance (acceptance_at b))
    (cond (k == 3) (Paper.Secret (secret_at b))
    (cond (k == 4) (off_paper_at b)
    (cond (k == 5) (Paper.Notice (stands_notice_at b))
    (cond (k == 6) (Paper.Refusal (refusal_at b)) (Paper.Question (question_at b)))))))

unfoldable pub paper_of : Bytes → Paper
paper_of b = paper_by (slice_index b 0) b

-- THE BYTES OF A PAPER HOLD THAT PAPER
abbrev pub ReadsBack : Type 0
ReadsBack = (x : Paper) → Sized x → paper_of (paper_bytes x) ≡ x

-- DIFFERENT PAPERS HAVE DIFFERENT BYTES
abbrev pub Apart : Type 0
Apart = (x y : Paper) → Sized x → Sized y → paper_bytes x ≡ paper_bytes y → x ≡ y
