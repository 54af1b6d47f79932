-- What passes its checks, and what the bytes that were signed hold. Assumes nothing.
use Rattle.std.proofs.Common.{◌≡◌, ℕ, Bool, T, ◌++◌, Some, None, Option, sym, refl, ◌∙◌, subst, arith}
use Rattle.std.proofs.lemmas.List.{append-nil}
use Rattle.std.proofs.Math.Facts.{and_yes, yes_and}
use Rattle.papers.specs.declared.Offer.{Offer}
use Rattle.papers.specs.declared.Acceptance.{Acceptance}
use Rattle.papers.specs.declared.Finding.{Finding}
use Rattle.papers.specs.declared.Finding.TheVariants.{CalledOff, Standing}
use Rattle.papers.specs.declared.Notice.{Notice}
use Rattle.papers.specs.declared.Paper.{Paper}
use Rattle.papers.specs.Encoding.{offer_bytes, acceptance_bytes, secret_bytes, off_bytes, notice_bytes, refusal_bytes, question_bytes, paper_bytes, about, OfferSized, FindingSized, Sized}
use Rattle.decoding.proofs.Back.{apart}
use Rattle.signing.specs.Scheme.{Scheme}
use Rattle.signing.specs.Checks.{else_fault, and_then, offer_signed, acceptance_signed, off_signed, notice_signed, parties_known, known, finding_signed, signed, vetted, sound}
use Rattle.contract.specs.Contract.{same_offer}
use Rattle.exchange.specs.declared.Exchange.{Exchange}
use Rattle.exchange.specs.Steps.{Outcome, refuse, addressed, concerns, me, step, checked, fault, unless, receive}
use Rattle.fairness.specs.World.{head, signature_of}
use Rattle.fairness.proofs.Basics.{same→eq}

-- ---- a paper's bytes are its head and its signature
bytes_are : (x : Paper) → paper_bytes x ≡ head x ++ signature_of x
unfolding paper_bytes offer_bytes acceptance_bytes off_bytes notice_bytes refusal_bytes question_bytes
bytes_are (Paper.Secret s) = sym (append-nil (secret_bytes s))
bytes_are x = refl

-- so one signature on one string is one paper
pub one_paper : (x y : Paper) → Sized x → Sized y → head x ≡ head y → signature_of x ≡ signature_of y → x ≡ y
one_paper x y s t p q = apart x y s t (bytes_are x ∙ (λ i. p i ++ q i) ∙ sym (bytes_are y))

-- ---- sizes of the papers in a paper
pub about_sized : (f : Finding) → FindingSized f → OfferSized (about f)
about_sized (CalledOff f) s = s.offer
about_sized (Standing a) s = s.offer

-- two offers with the same bytes
pub same_one : (o o' : Offer) → OfferSized o → OfferSized o' → T (same_offer o o') → o ≡ o'
unfolding paper_bytes
same_one o o' s t h = let same : Paper.Offer o ≡ Paper.Offer o' = apart (Paper.Offer o) (Paper.Offer o') s t (same→eq _ _ h) in cc

-- no fault: the test passes, and nor has what is tested after it one
pub passed : (b : Bool) (n : ℕ) (k : Option ℕ) → else_fault b n k ≡ None → T b × (k ≡ None)
passed b n k e = grind arith

pub first_none : (a b : Option ℕ) → and_then a b ≡ None → (a ≡ None) × (b ≡ None)
first_none None b e = (refl, e)
first_none (Some n) b e = cc

-- either no fault is found, and the step is taken; or the exchange is as it was
pub received : (C : Scheme) (P : Outcome → Type 0) (e : Exchange) (x : Paper) → (fault C e x ≡ None → P (step e x)) → ((n : ℕ) → P (refuse e n)) → P (receive C e x)
unfolding receive
received C P e x yes' no' = go (fault C e x) refl
  where
    go : (r : Option ℕ) → fault C e x ≡ r → P (unless C r e x)
    go None q = yes' q
    go (Some n) q = no' n

module _ (C : Scheme) where
  pub vetted_sound : (x : Paper) → vetted C x ≡ None → T (sound C x)
  unfolding vetted sound
  vetted_sound x e = grind arith

  pub sound_vetted : (x : Paper) → T (sound C x) → vetted C x ≡ None
  unfolding vetted sound
  sound_vetted x t = grind arith

  pub checked_means : (e : Exchange) (x : Paper) → checked C e x ≡ None → T (sound C x) × T (addressed (me e) x) × T (concerns e x)
  unfolding checked
  checked_means e x q = grind (arith, vetted_sound)

  -- ---- the signatures in a sound paper
  pub sound_signed : (x : Paper) → T (sound C x) → T (signed C x)
  unfolding sound
  sound_signed x t = (and_yes (known C x) (signed C x) t).1

  pub sound_known : (x : Paper) → T (sound C x) → T (known C x)
  unfolding sound
  sound_known x t = (and_yes (known C x) (signed C x) t).0

  pub is_sound : (x : Paper) → T (known C x) → T (signed C x) → T (sound C x)
  unfolding sound
  is_sound x k s = yes_and (known C x) (signed C x) k s

  -- the offer in an acceptance
  pub acceptance_offer : (a : Acceptance) → T (sound C (Paper.Acceptance a)) → T (sound C (Paper.Offer a.offer))
  acceptance_offer a t = is_sound (Paper.Offer a.offer) (sound_known (Paper.Acceptance a) t) (and_yes (offer_signed C a.offer) (acceptance_signed C a) (sound_signed (Paper.Acceptance a) t)).0

  pub acceptance_by : (a : Acceptance) → T (sound C (Paper.Acceptance a)) → T (acceptance_signed C a)
  acceptance_by a t = (and_yes (offer_signed C a.offer) (acceptance_signed C a) (sound_signed (Paper.Acceptance a) t)).1

  -- the finding in a notice
  pub notice_standing : (n : Notice) (a : Acceptance) → n.finding ≡ Standing a → T (sound C (Paper.Notice n)) → T (sound C (Paper.Acceptance a))
  notice_standing n a q t =
      is_sound (Paper.Acceptance a) (subst (λ f. T (parties_known C (about f))) q (sound_known (Paper.Notice n) t))
      (subst (λ f. T (finding_signed C f)) q (and_yes (finding_signed C n.finding) (notice_signed C n) (sound_signed (Paper.Notice n) t)).0)

  pub notice_by : (n : Notice) → T (sound C (Paper.Notice n)) → T (notice_signed C n)
  notice_by n t = (and_yes (finding_signed C n.finding) (notice_signed C n) (sound_signed (Paper.Notice n) t)).1

  pub notice_offer : (n : Notice) → T (sound C (Paper.Notice n)) → T (sound C (Paper.Offer (about n.finding)))
  notice_offer n t = is_sound (Paper.Offer (about n.finding)) (sound_known (Paper.Notice n) t) (go n.finding (and_yes (finding_signed C n.finding) (notice_signed C n) (sound_signed (Paper.Notice n) t)).0)
    where
      go : (f : Finding) → T (finding_signed C f) → T (offer_signed C (about f))
      go (CalledOff f) t = (and_yes (offer_signed C f.offer) (off_signed C f) t).0
      go (Standing a) t = (and_yes (offer_signed C a.offer) (acceptance_signed C a) t).0
