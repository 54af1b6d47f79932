-- What is read of a paper's bytes is the paper.
use Rattle.std.proofs.Common.{◌≡◌, ◌+◌, eqb, [], ◌∷◌, ◌++◌, length, sym, refl, ap, ◌∙◌, append_assoc, arith, length-append}
use Rattle.std.proofs.lemmas.List.{take_at, append-nil}
use Rattle.std.proofs.lemmas.Bool.{cond-true, cond-false, eq-eqb, ne_eqb}
use Rattle.octets.specs.Octets.{be16}
use Rattle.octets.proofs.Cut.{cut_at, cut_after, at16-be16}
use Rattle.papers.specs.declared.Terms.{Terms}
use Rattle.papers.specs.declared.Stamp.{Stamp}
use Rattle.papers.specs.declared.Offer.{Offer}
use Rattle.papers.specs.declared.Acceptance.{Acceptance}
use Rattle.papers.specs.declared.Secret.{Secret}
use Rattle.papers.specs.declared.Off.{Off}
use Rattle.papers.specs.declared.Finding.{Finding}
use Rattle.papers.specs.declared.Finding.TheVariants.{CalledOff, Standing}
use Rattle.papers.specs.declared.Refusal.{Refusal}
use Rattle.papers.specs.declared.Question.{Question}
use Rattle.papers.specs.declared.Paper.{Paper}
use Rattle.papers.specs.Encoding.{Bytes, offer_head, offer_bytes, acceptance_head, acceptance_bytes, secret_bytes, off_head, off_bytes, finding_bytes, off_notice, stands_notice, notice_head, notice_bytes, refusal_head, refusal_bytes, question_head, question_bytes, paper_bytes, OfferSized, AcceptanceSized, SecretSized, OffSized, NoticeSized, RefusalSized, QuestionSized}
use Rattle.decoding.specs.Decoding.{offer_at, acceptance_at, secret_at, off_at, off_notice_at, stands_notice_at, refusal_at, question_at, off_paper_at, paper_of, ReadsBack, Apart}
use Rattle.papers.proofs.Lengths.{length-offer_bytes, length-acceptance_bytes, length-off_bytes}

-- ---- an offer, with what follows it
laid_out : Offer → Bytes → Bytes
laid_out o rest = 1 ∷ (be16 o.first ++ (be16 o.second ++ (be16 o.notary ++ (o.text ++ (o.lock ++ (o.signature ++ rest))))))

only : (m : Terms) → Terms.Plain ≡ m
only Terms.Plain = refl

offer_flat : (o : Offer) (rest : Bytes) → offer_bytes o ++ rest ≡ laid_out o rest
unfolding offer_head offer_bytes laid_out
offer_flat o rest = rw (← only o.terms) (simp append_assoc)

pub offer_back : (o : Offer) → OfferSized o → (rest : Bytes) → offer_at (offer_bytes o ++ rest) ≡ o
unfolding offer_at laid_out
offer_back o s rest =
    ap offer_at (offer_flat o rest) ∙ λ i. record {
      first = at16-be16 o.first s.first i;
      second = at16-be16 o.second s.second i;
      notary = at16-be16 o.notary s.notary i;
      terms = only o.terms i;
      text = take_at o.text (o.lock ++ (o.signature ++ rest)) 32 s.text i;
      lock = cut_at o.text o.lock (o.signature ++ rest) 32 32 s.text s.lock i;
      signature = cut_after o.text o.lock o.signature rest 64 64 (λ j. s.text j + s.lock j) s.signature i;
    }

-- ---- an acceptance
pub acceptance_back : (a : Acceptance) → AcceptanceSized a → (rest : Bytes) → acceptance_at (acceptance_bytes a ++ rest) ≡ a
unfolding acceptance_at acceptance_head acceptance_bytes
acceptance_back a s rest =
    let b = offer_bytes a.offer in
    let n : length b ≡ 135 = length-offer_bytes a.offer s.offer in
    let flat : ((b ++ a.lock) ++ a.signature) ++ rest ≡ b ++ (a.lock ++ (a.signature ++ rest)) = simp append_assoc in
    ap (λ l. acceptance_at (2 ∷ l)) flat ∙ λ i. record {
      offer = offer_back a.offer s.offer (a.lock ++ (a.signature ++ rest)) i;
      lock = cut_at b a.lock (a.signature ++ rest) 135 32 n s.lock i;
      signature = cut_after b a.lock a.signature rest 167 64 (λ j. n j + s.lock j) s.signature i;
    }

-- ---- the wish to call off
pub off_back : (f : Off) → OffSized f → (rest : Bytes) → off_at (off_bytes f ++ rest) ≡ f
unfolding off_at off_head off_bytes
off_back f s rest =
    let b = offer_bytes f.offer in
    ap (λ l. off_at (4 ∷ l)) (append_assoc b f.signature rest) ∙ λ i. record {
      offer = offer_back f.offer s.offer (f.signature ++ rest) i;
      signature = cut_at b f.signature rest 135 64 (length-offer_bytes f.offer s.offer) s.signature i;
    }

secret_back : (s : Secret) → SecretSized s → secret_at (secret_bytes s) ≡ s
unfolding secret_at secret_bytes
secret_back s z =
    let e = append-nil s.secret in
    ap (λ l. secret_at (3 ∷ (s.offer ++ (s.lock ++ l)))) (sym e) ∙ λ i. record {
      offer = take_at s.offer (s.lock ++ (s.secret ++ [])) 32 z.offer i;
      lock = cut_at s.offer s.lock (s.secret ++ []) 32 32 z.offer z.lock i;
      secret = cut_after s.offer s.lock s.secret [] 64 32 (λ j. z.offer j + z.lock j) z.secret i;
    }

refusal_back : (r : Refusal) → RefusalSized r → refusal_at (refusal_bytes r) ≡ r
unfolding refusal_at refusal_head refusal_bytes
refusal_back r z =
    ap (λ l. refusal_at (6 ∷ l)) (append_assoc r.offer (9 ∷ []) r.signature ∙ ap (λ l. r.offer ++ 9 ∷ l) (sym (append-nil r.signature))) ∙ λ i. record {
      offer = take_at r.offer (9 ∷ (r.signature ++ [])) 32 z.offer i;
      signature = cut_after r.offer (9 ∷ []) r.signature [] 33 64 (λ j. z.offer j + 1) z.signature i;
    }

question_back : (q : Question) → QuestionSized q → question_at (question_bytes q) ≡ q
unfolding question_at question_head question_bytes
question_back q z =
    let b = acceptance_bytes q.acceptance in
    ap (λ l. question_at (7 ∷ (be16 q.side ++ (b ++ l)))) (sym (append-nil q.signature)) ∙ λ i. record {
      side = at16-be16 q.side z.side i;
      acceptance = acceptance_back q.acceptance z.acceptance (q.signature ++ []) i;
      signature = cut_at b q.signature [] 232 64 (length-acceptance_bytes q.acceptance z.acceptance) z.signature i;
    }

-- ---- a notary's papers
off_kind : (f : Off) (rest : Bytes) → paper_of (off_bytes f ++ rest) ≡ off_paper_at (off_bytes f ++ rest)
unfolding paper_of off_head off_bytes
off_kind f rest = refl

off_notice_back : (f : Off) (g : Bytes) → OffSized f → length g ≡ 64 → paper_of (off_bytes f ++ (g ++ [])) ≡ Paper.Notice (off_notice f g)
unfolding off_notice_at
off_notice_back f g s n =
    let b = off_bytes f ++ (g ++ []) in
    let l : length (off_bytes f) ≡ 200 = length-off_bytes f s in
    let more : length b ≡ 200 → ⊥ = λ e. omega (arith, length-append (off_bytes f) (g ++ []), length-append g []) in
    off_kind f (g ++ [])
    ∙ cond-false (eqb (length b) 200) (Paper.Off (off_at b)) (Paper.Notice (off_notice_at b)) (ne_eqb (length b) 200 more)
    ∙ λ i. Paper.Notice (record { finding = CalledOff (off_back f s (g ++ []) i); stamp = Stamp.Plain; signature = cut_at (off_bytes f) g [] 200 64 l n i })

stands_notice_back : (a : Acceptance) (g : Bytes) → AcceptanceSized a → length g ≡ 64 → paper_of (5 ∷ (acceptance_bytes a ++ (g ++ []))) ≡ Paper.Notice (stands_notice a g)
unfolding paper_of stands_notice_at
stands_notice_back a g s n =
    λ i. Paper.Notice (record { finding = Standing (acceptance_back a s (g ++ []) i); stamp = Stamp.Plain; signature = cut_at (acceptance_bytes a) g [] 232 64 (length-acceptance_bytes a s) n i })

notice_back : (f : Finding) (m : Stamp) (g : Bytes) → NoticeSized (record { finding = f; stamp = m; signature = g }) → paper_of (notice_bytes (record { finding = f; stamp = m; signature = g })) ≡ Paper.Notice (record { finding = f; stamp = m; signature = g })
unfolding finding_bytes notice_head notice_bytes
notice_back (CalledOff f) Stamp.Plain g s =
    ap paper_of (append_assoc (off_bytes f) [] g ∙ ap (λ l. off_bytes f ++ l) (sym (append-nil g))) ∙ off_notice_back f g s.finding s.signature
notice_back (Standing a) Stamp.Plain g s =
    ap (λ l. paper_of (5 ∷ l)) (append_assoc (acceptance_bytes a) [] g ∙ ap (λ l. acceptance_bytes a ++ l) (sym (append-nil g))) ∙ stands_notice_back a g s.finding s.signature

-- ---- every paper
offer_paper : (o : Offer) (rest : Bytes) → paper_of (laid_out o rest) ≡ Paper.Offer (offer_at (laid_out o rest))
unfolding paper_of laid_out
offer_paper o rest = refl

acceptance_paper : (a : Acceptance) (rest : Bytes) → paper_of (acceptance_bytes a ++ rest) ≡ Paper.Acceptance (acceptance_at (acceptance_bytes a ++ rest))
unfolding paper_of acceptance_head acceptance_bytes
acceptance_paper a rest = refl

pub back : ReadsBack
unfolding paper_bytes paper_of secret_bytes refusal_head refusal_bytes question_head question_bytes
back (Paper.Offer o) s =
    ap paper_of (sym (append-nil (offer_bytes o)) ∙ offer_flat o []) ∙ offer_paper o [] ∙ ap (λ b. Paper.Offer (offer_at b)) (sym (offer_flat o [])) ∙ ap Paper.Offer (offer_back o s [])
back (Paper.Acceptance a) s = ap paper_of (sym (append-nil (acceptance_bytes a))) ∙ acceptance_paper a [] ∙ ap Paper.Acceptance (acceptance_back a s [])
back (Paper.Secret x) s = ap Paper.Secret (secret_back x s)
back (Paper.Off f) s =
    let b = off_bytes f ++ [] in
    let l : length b ≡ 200 = ap length (append-nil (off_bytes f)) ∙ length-off_bytes f s in
    ap paper_of (sym (append-nil (off_bytes f))) ∙ off_kind f [] ∙ cond-true (eqb (length b) 200) (Paper.Off (off_at b)) (Paper.Notice (off_notice_at b)) (eq-eqb (length b) 200 l) ∙ ap Paper.Off (off_back f s [])
back (Paper.Notice n) s = notice_back n.finding n.stamp n.signature s
back (Paper.Refusal r) s = ap Paper.Refusal (refusal_back r s)
back (Paper.Question q) s = ap Paper.Question (question_back q s)

pub apart : Apart
apart x y s t e = sym (back x s) ∙ ap paper_of e ∙ back y t
