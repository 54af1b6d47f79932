-- What the check of each paper's signature says. Assumes nothing.
use Rattle.std.specs.Prelude.{◌≡◌, refl}
use Rattle.papers.specs.declared.Party.{Party}
use Rattle.papers.specs.declared.Offer.{Offer}
use Rattle.papers.specs.declared.Acceptance.{Acceptance}
use Rattle.papers.specs.declared.Off.{Off}
use Rattle.papers.specs.declared.Notice.{Notice}
use Rattle.papers.specs.declared.Question.{Question}
use Rattle.papers.specs.Encoding.{offer_head, acceptance_head, off_head, notice_head, question_head}
use Rattle.signing.specs.Scheme.{Scheme}
use Rattle.signing.specs.Checks.{notary_of, offer_signed, acceptance_signed, off_signed, notice_signed, question_signed}

module _ (S : Scheme) where
  pub offer_by : (o : Offer) → offer_signed S o ≡ S.accepts (Party.Side o.first) (offer_head o) o.signature
  unfolding offer_signed
  offer_by o = refl

  pub acceptance_by : (a : Acceptance) → acceptance_signed S a ≡ S.accepts (Party.Side a.offer.second) (acceptance_head a) a.signature
  unfolding acceptance_signed
  acceptance_by a = refl

  pub off_by : (f : Off) → off_signed S f ≡ S.accepts (Party.Side f.offer.first) (off_head f) f.signature
  unfolding off_signed
  off_by f = refl

  pub notice_by : (n : Notice) → notice_signed S n ≡ S.accepts (Party.Notary (notary_of n)) (notice_head n) n.signature
  unfolding notice_signed
  notice_by n = refl

  pub question_by : (q : Question) → question_signed S q ≡ S.accepts (Party.Side q.side) (question_head q) q.signature
  unfolding question_signed
  question_by q = refl
