-- The numbers of the faults. Assumes nothing.
use Rattle.std.specs.Prelude.{ℕ}
use Rattle.papers.specs.declared.Fault.{Fault}
use Rattle.papers.specs.declared.Fault.TheVariants.{Malformed, UnknownParty, BadSignature, Misdirected, UnknownOffer, AcceptanceTooLate, WrongSecret, TooMany, NoRoom, OutOfPlace, MixedOffers}

-- the number by which a fault is known; no case has values
abbrev pub number : Fault → ℕ
number Malformed = 1
number UnknownParty = 2
number BadSignature = 3
number Misdirected = 4
number UnknownOffer = 5
number AcceptanceTooLate = 6
number WrongSecret = 7
number TooMany = 8
number NoRoom = 9
number OutOfPlace = 10
number MixedOffers = 11
