-- The bytes of a signed paper are its head, and then its signature. Assumes nothing.
use Rattle.std.specs.Prelude.{◌≡◌, ◌++◌, refl}
use Rattle.papers.specs.declared.Offer.{Offer}
use Rattle.papers.specs.declared.Acceptance.{Acceptance}
use Rattle.papers.specs.declared.Off.{Off}
use Rattle.papers.specs.declared.Notice.{Notice}
use Rattle.papers.specs.declared.Refusal.{Refusal}
use Rattle.papers.specs.declared.Question.{Question}
use Rattle.papers.specs.Encoding.{offer_head, offer_bytes, acceptance_head, acceptance_bytes, off_head, off_bytes, notice_head, notice_bytes, refusal_head, refusal_bytes, question_head, question_bytes}

pub offer_ends : (o : Offer) → offer_bytes o ≡ offer_head o ++ o.signature
unfolding offer_bytes
offer_ends o = refl

pub acceptance_ends : (a : Acceptance) → acceptance_bytes a ≡ acceptance_head a ++ a.signature
unfolding acceptance_bytes
acceptance_ends a = refl

pub off_ends : (f : Off) → off_bytes f ≡ off_head f ++ f.signature
unfolding off_bytes
off_ends f = refl

pub notice_ends : (n : Notice) → notice_bytes n ≡ notice_head n ++ n.signature
unfolding notice_bytes
notice_ends n = refl

pub refusal_ends : (r : Refusal) → refusal_bytes r ≡ refusal_head r ++ r.signature
unfolding refusal_bytes
refusal_ends r = refl

pub question_ends : (q : Question) → question_bytes q ≡ question_head q ++ q.signature
unfolding question_bytes
question_ends q = refl
