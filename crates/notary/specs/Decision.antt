-- What a notary that keeps to the rules decides. A refusal is its number. Assumes nothing.
use Rattle.std.specs.Prelude.{ℕ, Bool, List, codes, cond, ◌&&◌, replicate, Some, None, Ok, Err, Option, Result, ◌==◌}
use Rattle.papers.specs.declared.Terms.{Terms}
use Rattle.papers.specs.declared.Stamp.{Stamp}
use Rattle.papers.specs.declared.Offer.{Offer}
use Rattle.papers.specs.declared.Finding.{Finding}
use Rattle.papers.specs.declared.Finding.TheVariants.{CalledOff, Standing}
use Rattle.papers.specs.declared.Notice.{Notice}
use Rattle.papers.specs.declared.Refusal.{Refusal}
use Rattle.papers.specs.declared.Paper.{Paper}
use Rattle.papers.specs.Encoding.{Bytes, notice_head, refusal_head, about}
use Rattle.signing.specs.Scheme.{Scheme}
use Rattle.signing.specs.Checks.{else_fault, and_then, party_of, ident, notice_signed, refusal_signed, vetted}
use Rattle.notary.specs.declared.Row.{Row}
use Rattle.notary.specs.declared.Decision.{Decision}

-- ---- rows and the notary's papers
abbrev pub row_by : Finding → Stamp → Bytes → Row
row_by (CalledOff f) m g = Row.Off f m g
row_by (Standing a) m g = Row.Stands a m g

abbrev pub row_of : Notice → Row
row_of n = row_by n.finding n.stamp n.signature

abbrev pub notice_in : Row → Option Notice
notice_in Row.Nothing = None
notice_in (Row.Off f m g) = Some (record { finding = CalledOff f; stamp = m; signature = g })
notice_in (Row.Stands a m g) = Some (record { finding = Standing a; stamp = m; signature = g })

abbrev pub row_name : Row → List ℕ
row_name Row.Nothing = codes "nothing"
row_name (Row.Off f m g) = codes "off"
row_name (Row.Stands a m g) = codes "stands"

-- ---- by the terms
-- the notaries that an offer names
abbrev pub names_by : Terms → (named n : ℕ) → Bool
names_by Terms.Plain m n = m == n

abbrev pub names : Offer → ℕ → Bool
names o n = names_by o.terms o.notary n

-- what it finds at this time, asked for a finding of which the book has nothing
abbrev pub found : Terms → (clock : ℕ) → Finding → Finding
found Terms.Plain c f = f

-- what it adds
abbrev pub stamped : Terms → (clock : ℕ) → Stamp
stamped Terms.Plain c = Stamp.Plain

-- ---- WHAT IS WRONG WITH A MESSAGE: 2, 3, 4 or 10
module _ (S : Scheme) where
  -- no question; 10 once it is right in itself and names this notary
  abbrev pub no_question : ℕ → Offer → Paper → Option ℕ
  no_question n o x = and_then (vetted S x) (else_fault (names o n) 4 (Some 10))

  abbrev pub fault : ℕ → Paper → Option ℕ
  fault n (Paper.Offer o) = no_question n o (Paper.Offer o)
  fault n (Paper.Acceptance a) = no_question n a.offer (Paper.Acceptance a)
  fault n (Paper.Secret s) = Some 10
  fault n (Paper.Off f) = and_then (vetted S (Paper.Off f)) (else_fault (names f.offer n) 4 None)
  fault n (Paper.Notice m) = no_question n (about m.finding) (Paper.Notice m)
  fault n (Paper.Refusal r) = Some 10
  fault n (Paper.Question q) = and_then (vetted S (Paper.Question q)) (else_fault (names q.acceptance.offer n && party_of q.side q.acceptance.offer) 4 None)

  -- ---- THE ANSWER; sign is the notary's own
  module _ (sign : Bytes → Bytes) where
    unfoldable pub new_notice : (clock : ℕ) → Finding → Notice
    new_notice c f =
        let m : Stamp = stamped (about f).terms c in
        record { finding = f; stamp = m; signature = sign (notice_head (record { finding = f; stamp = m; signature = replicate 64 0 })) }

    unfoldable pub new_refusal : Offer → Refusal
    new_refusal o = record { offer = ident S o; signature = sign (refusal_head (record { offer = ident S o; signature = replicate 64 0 })) }

    -- it writes a notice, and answers with it; 3 where its own signature does not pass
    abbrev pub writes : ℕ → Notice → Result Decision ℕ
    writes p m = cond (notice_signed S m) (Ok (record { write = Some m; to = p; answer = Paper.Notice m })) (Err 3)

    -- it has no room: 9, answered by a refusal
    abbrev pub refuses : ℕ → ℕ → Refusal → Result Decision ℕ
    refuses n p r = cond (refusal_signed S n r) (Ok (record { write = None; to = p; answer = Paper.Refusal r })) (Err 3)

    abbrev pub repeats : ℕ → Notice → Result Decision ℕ
    repeats p m = Ok (record { write = None; to = p; answer = Paper.Notice m })

    -- the book has something, and that is the answer; or it has nothing
    abbrev pub answer : (n clock : ℕ) → Option Notice → Bool → (asker : ℕ) → Finding → Result Decision ℕ
    answer n c (Some m) room p f = repeats p m
    answer n c None room p f = cond room (writes p (new_notice c (found (about f).terms c f))) (refuses n p (new_refusal (about f)))

    abbrev pub refused : Option ℕ → Result Decision ℕ → Result Decision ℕ
    refused None d = d
    refused (Some k) d = Err k

    -- what a question asks for, by whom; any other paper is refused before
    abbrev pub answer_to : (n clock : ℕ) → Option Notice → Bool → Paper → Result Decision ℕ
    answer_to n c row room (Paper.Offer o) = Err 10
    answer_to n c row room (Paper.Acceptance a) = Err 10
    answer_to n c row room (Paper.Secret s) = Err 10
    answer_to n c row room (Paper.Off f) = answer n c row room f.offer.first (CalledOff f)
    answer_to n c row room (Paper.Notice m) = Err 10
    answer_to n c row room (Paper.Refusal r) = Err 10
    answer_to n c row room (Paper.Question q) = answer n c row room q.side (Standing q.acceptance)

    -- THE DECISION of the notary n: by its clock, the row of the offer, the asking side's room, and the message
    unfoldable pub decide : (n clock : ℕ) → Row → (room : Bool) → Paper → Result Decision ℕ
    decide n c row room x = refused (fault n x) (answer_to n c (notice_in row) room x)
