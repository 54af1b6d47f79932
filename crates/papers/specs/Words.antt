-- What papers and faults are called. Assumes nothing.
use Rattle.std.specs.Prelude.{ℕ, List, codes}
use Rattle.papers.specs.declared.Finding.{Finding}
use Rattle.papers.specs.declared.Finding.TheVariants.{CalledOff, Standing}
use Rattle.papers.specs.declared.Paper.{Paper}
use Rattle.papers.specs.declared.Fault.{Fault}
use Rattle.papers.specs.declared.Fault.TheVariants.{Malformed, UnknownParty, BadSignature, Misdirected, UnknownOffer, AcceptanceTooLate, WrongSecret, TooMany, NoRoom, OutOfPlace, MixedOffers}

abbrev pub notice_name : Finding → List ℕ
notice_name (CalledOff f) = codes "the notary's Off"
notice_name (Standing a) = codes "the notary's Stands"

abbrev pub paper_name : Paper → List ℕ
paper_name (Paper.Offer o) = codes "an offer"
paper_name (Paper.Acceptance a) = codes "an acceptance"
paper_name (Paper.Secret s) = codes "a secret"
paper_name (Paper.Off f) = codes "the wish to call off"
paper_name (Paper.Notice n) = notice_name n.finding
paper_name (Paper.Refusal r) = codes "a refusal"
paper_name (Paper.Question q) = codes "a question by an acceptance"

-- why something is refused
abbrev pub fault_text : Fault → List ℕ
fault_text Malformed = codes "no paper has this kind and length"
fault_text UnknownParty = codes "a party is not in the directory, or both sides are one"
fault_text BadSignature = codes "a signature is wrong"
fault_text Misdirected = codes "it is meant for somebody else"
fault_text UnknownOffer = codes "the offer is not known here"
fault_text AcceptanceTooLate = codes "the acceptance is too late"
fault_text WrongSecret = codes "the secret does not open the lock"
fault_text TooMany = codes "there are too many exchanges"
fault_text NoRoom = codes "this side's room in the notary's book is full"
fault_text OutOfPlace = codes "it is out of place now"
fault_text MixedOffers = codes "the papers belong to different offers"
