-- Calls in the example's setting. Assumes nothing.
use Rattle.std.proofs.Common.{replicate, refl, lit<}
use Rattle.std.proofs.lemmas.Option.{none-some}
use Rattle.papers.specs.declared.Party.{Party}
use Rattle.papers.specs.declared.Terms.{Terms}
use Rattle.papers.specs.Encoding.{Bytes, offer_head, offer_bytes, off_head, off_bytes}
use Rattle.signing.specs.Checks.{ident, vetted, sound, offer_signed, off_signed}
use Rattle.exchange.specs.declared.Order.{Order}
use Rattle.exchange.specs.Steps.{offer, new_offer, new_wish, ask}
use Rattle.side.specs.Table.{lookup, store, uses, open_count, side_offer, side_ask}
use Rattle.fairness.specs.World.{start, OrderSized}
use Rattle.fairness.specs.Example.{setting}
use Rattle.refinement.specs.Calls.{FreshElsewhere, begin, offered, asked_to, OneAsked}

abbrev order : Order
order = record { first = 1; second = 2; notary = 1; terms = Terms.Plain; text = replicate 32 7; secret = replicate 32 5 }

abbrev k : Bytes
k = ident setting.scheme (new_offer setting.scheme (setting.sign (Party.Side 1)) order)

sized : OrderSized order
sized = record { first = lit< tt; second = lit< tt; notary = lit< tt; text = refl; secret = refl }

fresh : FreshElsewhere setting start 1 (replicate 32 5)
fresh = ((λ q j e n h z. none-some _ h), λ i. i)

pub one_asked : OneAsked
unfolding lookup store uses open_count side_offer side_ask offer new_offer new_wish ask vetted sound offer_signed off_signed offer_head offer_bytes off_head off_bytes
one_asked = record { tables = _; world = _; played = asked_to (offered begin order tt sized fresh) 1 k tt; id = k; exchange = _; here = refl; wish = _; asked = refl }
