-- What makes a contract, and when a notary has cheated. Assumes nothing.
use Rattle.std.specs.Prelude.{Bool, true, false, ◌&&◌, ◌==◌}
use Rattle.std.specs.Str.{bytes_eq}
use Rattle.papers.specs.declared.Terms.{Terms}
use Rattle.papers.specs.declared.Offer.{Offer}
use Rattle.papers.specs.declared.Acceptance.{Acceptance}
use Rattle.papers.specs.declared.Finding.{Finding}
use Rattle.papers.specs.declared.Finding.TheVariants.{CalledOff, Standing}
use Rattle.papers.specs.declared.Notice.{Notice}
use Rattle.papers.specs.declared.Stands.{Stands}
use Rattle.papers.specs.declared.Paper.{Paper}
use Rattle.papers.specs.Encoding.{Bytes, offer_bytes}
use Rattle.signing.specs.Scheme.{Scheme}
use Rattle.signing.specs.Checks.{sound, notary_of}
use Rattle.contract.specs.declared.Contract.{Contract}

abbrev pub notice_of : Stands → Notice
notice_of s = record { finding = Standing s.acceptance; stamp = s.stamp; signature = s.signature }

-- by the terms: do both secrets make a contract?
abbrev pub secrets_count : Terms → Bool
secrets_count Terms.Plain = true

-- papers of one offer, compared as bytes
abbrev pub same_offer : Offer → Offer → Bool
same_offer o o' = bytes_eq (offer_bytes o) (offer_bytes o')

-- findings that one notary may not have both: an offer is off, and an acceptance of it stands
abbrev pub clash : Finding → Finding → Bool
clash (CalledOff f) (CalledOff g) = false
clash (CalledOff f) (Standing a) = same_offer f.offer a.offer
clash (Standing a) (CalledOff f) = false
clash (Standing a) (Standing b) = false

abbrev pub acceptance_in : Contract → Acceptance
acceptance_in (Contract.Secrets a x y) = a
acceptance_in (Contract.Stands s) = s.acceptance

abbrev pub offer_in : Contract → Offer
offer_in c = (acceptance_in c).offer

module _ (S : Scheme) where
  -- the secret has this digest
  abbrev pub opens : Bytes → Bytes → Bool
  opens secret lock = bytes_eq (S.digest secret) lock

  -- A CONTRACT: an acceptance with the first's and the second's secret, or the named notary's Stands
  unfoldable pub contract : Contract → Bool
  contract (Contract.Secrets a x y) = sound S (Paper.Acceptance a) && (secrets_count a.offer.terms && (opens x a.offer.lock && opens y a.lock))
  contract (Contract.Stands s) = sound S (Paper.Notice (notice_of s))

  -- THE NOTARY CHEATED: two notices of one notary, that an offer is off, and that an acceptance of it stands
  unfoldable pub cheated : Notice → Notice → Bool
  cheated f s = sound S (Paper.Notice f) && (sound S (Paper.Notice s) && (notary_of f == notary_of s && clash f.finding s.finding))
