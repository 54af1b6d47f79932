-- How long each paper is, and the part of it that is signed.
use Rattle.std.proofs.Common.{◌≡◌, length, refl, arith, length-append}
use Rattle.papers.specs.declared.Terms.{Terms}
use Rattle.papers.specs.declared.Offer.{Offer}
use Rattle.papers.specs.declared.Acceptance.{Acceptance}
use Rattle.papers.specs.declared.Off.{Off}
use Rattle.papers.specs.Encoding.{terms_bytes, offer_head, offer_bytes, acceptance_head, acceptance_bytes, off_head, off_bytes, OfferSized, AcceptanceSized, OffSized}

length-terms_bytes : (m : Terms) → length (terms_bytes m) ≡ 0
length-terms_bytes Terms.Plain = refl

pub length-offer_head : (o : Offer) → OfferSized o → length (offer_head o) ≡ 71
unfolding offer_head
length-offer_head o s =
    let t : length o.text ≡ 32 = s.text in
    let l : length o.lock ≡ 32 = s.lock in
    let m : length (terms_bytes o.terms) ≡ 0 = length-terms_bytes o.terms in
    simp length-append (omega arith)

pub length-offer_bytes : (o : Offer) → OfferSized o → length (offer_bytes o) ≡ 135
unfolding offer_bytes
length-offer_bytes o s =
    let h : length (offer_head o) ≡ 71 = length-offer_head o s in
    let g : length o.signature ≡ 64 = s.signature in
    simp length-append (omega arith)

pub length-acceptance_head : (a : Acceptance) → AcceptanceSized a → length (acceptance_head a) ≡ 168
unfolding acceptance_head
length-acceptance_head a s =
    let o : length (offer_bytes a.offer) ≡ 135 = length-offer_bytes a.offer s.offer in
    let l : length a.lock ≡ 32 = s.lock in
    simp length-append (omega arith)

pub length-acceptance_bytes : (a : Acceptance) → AcceptanceSized a → length (acceptance_bytes a) ≡ 232
unfolding acceptance_bytes
length-acceptance_bytes a s =
    let h : length (acceptance_head a) ≡ 168 = length-acceptance_head a s in
    let g : length a.signature ≡ 64 = s.signature in
    simp length-append (omega arith)

pub length-off_head : (f : Off) → OffSized f → length (off_head f) ≡ 136
unfolding off_head
length-off_head f s = let o : length (offer_bytes f.offer) ≡ 135 = length-offer_bytes f.offer s.offer in omega arith

pub length-off_bytes : (f : Off) → OffSized f → length (off_bytes f) ≡ 200
unfolding off_bytes
length-off_bytes f s =
    let h : length (off_head f) ≡ 136 = length-off_head f s in
    let g : length f.signature ≡ 64 = s.signature in
    simp length-append (omega arith)
