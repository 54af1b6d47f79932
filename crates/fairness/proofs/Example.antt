-- The laws are met, and the runs are there. Assumes nothing.
use Rattle.std.proofs.Common.{◌≡◌, ℕ, ◌+◌, true, [], ◌∷◌, ◌++◌, length, take, replicate, Some, None, Ok, refl, inl, inr, arith, lit<, length-append}
use Rattle.std.proofs.lemmas.List.{length-take-le}
use Rattle.std.proofs.lemmas.Option.{none-some}
use Rattle.papers.specs.declared.Party.{Party}
use Rattle.papers.specs.declared.Terms.{Terms}
use Rattle.papers.specs.declared.Offer.{Offer}
use Rattle.papers.specs.declared.Acceptance.{Acceptance}
use Rattle.papers.specs.declared.Secret.{Secret}
use Rattle.papers.specs.declared.Off.{Off}
use Rattle.papers.specs.declared.Finding.TheVariants.{CalledOff as Called}
use Rattle.papers.specs.declared.Notice.{Notice}
use Rattle.papers.specs.declared.Paper.{Paper}
use Rattle.papers.specs.Encoding.{Bytes, offer_head, offer_bytes, acceptance_head, acceptance_bytes, off_head, off_bytes, finding_bytes, notice_head, OfferSized, AcceptanceSized, OffSized}
use Rattle.signing.specs.Scheme.{Scheme}
use Rattle.signing.specs.Checks.{ident, vetted, sound, offer_signed, acceptance_signed, off_signed, notice_signed, question_signed, refusal_signed}
use Rattle.contract.specs.declared.Contract.{Contract}
use Rattle.exchange.specs.declared.Exchange.{Exchange}
use Rattle.exchange.specs.declared.Post.{Post}
use Rattle.exchange.specs.declared.Order.{Order}
use Rattle.exchange.specs.declared.Effect.TheVariants.{Send}
use Rattle.exchange.specs.declared.Role.TheVariants.{First, Second}
use Rattle.exchange.specs.declared.State.TheVariants.{Offered, Accepted}
use Rattle.exchange.specs.Steps.{zeros, opened, offer, new_offer, accept, new_acceptance, new_wish, ask, receive, step, checked, secret_checked, refusal_checked}
use Rattle.notary.specs.Decision.{decide, new_notice}
use Rattle.fairness.specs.World.{Laws, In, entry, World, start, set, Fresh, Possible, after_side, after_outcome, decides, after_decision, offers, accepts, asks, hears, asked, Run, stay, more}
use Rattle.fairness.specs.Promise.{SignOk}
use Rattle.fairness.specs.Example.{short_signature, setting, BothBound, CalledOff, PremisesMet}
use Rattle.fairness.proofs.Basics.{eq→same, set_all}

filled : (n : ℕ) (x y : Bytes) → length y ≡ n → length (take n (x ++ y)) ≡ n
filled n x y q =
    let a : length (x ++ y) ≡ length x + length y = length-append x y in
    length-take-le n (x ++ y) (omega arith)

pub laws : Laws setting
laws = record { digest_size = λ x. filled 32 x (replicate 32 1) refl; sign_size = λ p m. filled 64 m (replicate 64 2) refl }

pub sign_ok : (p : Party) → SignOk setting p
sign_ok p m = eq→same (short_signature m) (short_signature m) refl

-- named on an `unfolding` line, all that the runs compute with
the_steps : Unit {0}
unfolding set offer accept new_offer new_acceptance new_wish ask receive step checked secret_checked refusal_checked vetted sound offer_signed acceptance_signed off_signed notice_signed question_signed refusal_signed offer_head offer_bytes acceptance_head acceptance_bytes off_head off_bytes finding_bytes notice_head decide new_notice
the_steps = tt

-- ---- side 1 makes an offer to side 2
abbrev C : Scheme
C = setting.scheme

abbrev x₁ : Bytes
x₁ = replicate 32 5

abbrev x₂ : Bytes
x₂ = replicate 32 6

abbrev order : Order
order = record { first = 1; second = 2; notary = 1; terms = Terms.Plain; text = replicate 32 7; secret = x₁ }

abbrev the_offer : Offer
the_offer = new_offer C (setting.sign (Party.Side 1)) order

abbrev k : Bytes
k = ident C the_offer

abbrev e₀ : Exchange
e₀ = opened C (setting.sign (Party.Side 1)) First the_offer x₁ Offered

abbrev m₀ : Post
m₀ = record { to = Party.Side 2; paper = Paper.Offer the_offer }

offered : offer C (setting.sign (Party.Side 1)) order ≡ Ok (e₀, m₀)
unfolding the_steps
offered = refl

abbrev w₁ : World
w₁ = after_side start 1 k e₀ (Send m₀) []

fresh₁ : Fresh setting start x₁
fresh₁ = ((λ p j e h. absurd (none-some _ h)), λ i. i)

run₁ : Run setting start w₁
run₁ = more stay (offers order e₀ m₀ tt (record { first = lit< tt; second = lit< tt; notary = lit< tt; text = refl; secret = refl }) fresh₁ offered refl)

offer_sized : OfferSized the_offer
unfolding the_steps
offer_sized = record { first = lit< tt; second = lit< tt; notary = lit< tt; text = refl; lock = refl; signature = refl }

-- ---- side 2 accepts
abbrev a : Acceptance
a = new_acceptance C (setting.sign (Party.Side 2)) the_offer x₂

abbrev d₀ : Exchange
d₀ = opened C (setting.sign (Party.Side 2)) Second the_offer x₂ (Accepted a)

abbrev n₀ : Post
n₀ = record { to = Party.Side 1; paper = Paper.Acceptance a }

accepted : accept C (setting.sign (Party.Side 2)) 2 the_offer x₂ ≡ Ok (d₀, n₀)
unfolding the_steps
accepted = refl

abbrev w₂ : World
w₂ = after_side w₁ 2 k d₀ (Send n₀) []

free₂ : w₁.sides 2 k ≡ None
unfolding set
free₂ = refl

-- another secret than the first side's
fresh₂ : Fresh setting w₁ x₂
fresh₂ = (set_all 1 k e₀ start.sides (λ p j e. e.secret ≡ x₂ → ⊥) (λ q. cc) (λ p j e h n q. none-some _ h), λ i. i)

run₂ : Run setting start w₂
unfolding new_offer
run₂ = more run₁ (accepts 2 the_offer x₂ d₀ n₀ tt offer_sized (λ _ _. inl refl) refl fresh₂ accepted free₂)

acceptance_sized : AcceptanceSized a
unfolding the_steps
acceptance_sized = record { offer = offer_sized; lock = refl; signature = refl }

-- ---- the acceptance comes to side 1, its secret to side 2, and the second's to side 1
abbrev w₃ : World
w₃ = after_outcome w₂ 1 k (receive C e₀ (Paper.Acceptance a)) []

here₂ : w₂.sides 1 k ≡ Some e₀
unfolding the_steps
here₂ = refl

run₃ : Run setting start w₃
unfolding new_offer new_acceptance
run₃ = more run₂ (hears 1 k e₀ (Paper.Acceptance a) tt here₂ (acceptance_sized, ((λ _ _. inr (inl refl)), λ _ _. inl refl)))

abbrev s₁ : Secret
s₁ = record { offer = k; lock = zeros; secret = x₁ }

out₃ : In x₁ w₃.out
unfolding the_steps
out₃ = inl refl

there₃ : w₃.sides 2 k ≡ Some d₀
unfolding the_steps
there₃ = refl

abbrev w₄ : World
w₄ = after_outcome w₃ 2 k (receive C d₀ (Paper.Secret s₁)) (x₁ ∷ [])

id_sized : length k ≡ 32
id_sized = laws.digest_size (offer_bytes the_offer)

run₄ : Run setting start w₄
run₄ = more run₃ (hears 2 k d₀ (Paper.Secret s₁) tt there₃ (record { offer = id_sized; lock = refl; secret = refl }, λ p j e h q. out₃))

abbrev e₁ : Exchange
e₁ = (receive C e₀ (Paper.Acceptance a)).0

abbrev s₂ : Secret
s₂ = record { offer = k; lock = x₂; secret = x₂ }

here₄ : w₄.sides 1 k ≡ Some e₁
unfolding set offer_bytes offer_head new_offer
here₄ = refl

out₄ : In x₂ w₄.out
unfolding the_steps
out₄ = inl refl

abbrev w₅ : World
w₅ = after_outcome w₄ 1 k (receive C e₁ (Paper.Secret s₂)) (x₂ ∷ [])

run₅ : Run setting start w₅
run₅ = more run₄ (hears 1 k e₁ (Paper.Secret s₂) tt here₄ (record { offer = id_sized; lock = refl; secret = refl }, λ p j e h q. out₄))

both_bound : BothBound
unfolding the_steps
both_bound = record {
  world = w₅;
  reached = run₅;
  id = k;
  first = (receive C e₁ (Paper.Secret s₂)).0;
  second = (receive C d₀ (Paper.Secret s₁)).0;
  here = refl;
  there = refl;
  papers = Contract.Secrets a x₁ x₂;
  first_bound = refl;
  second_bound = refl;
}

-- ---- or side 1 asks by Off, the notary answers, and the answer comes
abbrev f : Off
f = new_wish C (setting.sign (Party.Side 1)) the_offer

abbrev v₂ : World
v₂ = after_outcome w₁ 1 k (ask C (setting.sign (Party.Side 1)) e₀) []

here₁ : w₁.sides 1 k ≡ Some e₀
unfolding set offer_bytes offer_head new_offer
here₁ = refl

off₂ : Run setting start v₂
off₂ = more run₁ (asks 1 k e₀ tt here₁)

logged : In (entry (Party.Side 1) (Paper.Off f)) v₂.log
unfolding the_steps
logged = inl refl

offer_logged : In (entry (Party.Side 1) (Paper.Offer the_offer)) v₂.log
unfolding the_steps
offer_logged = inr (inl refl)

off_sized : OffSized f
unfolding the_steps
off_sized = record { offer = offer_sized; signature = refl }

off_possible : Possible setting v₂ (Paper.Off f)
unfolding the_steps
off_possible = (off_sized, ((λ _ _. offer_logged), λ _ _. logged))

abbrev v₃ : World
v₃ = after_decision setting v₂ 1 (decides setting v₂ 1 true (Paper.Off f))

off₃ : Run setting start v₃
off₃ = more off₂ (asked 1 true (Paper.Off f) tt off_possible)

abbrev n : Notice
n = new_notice C (setting.sign (Party.Notary 1)) 0 (Called f)

abbrev e₂ : Exchange
e₂ = (ask C (setting.sign (Party.Side 1)) e₀).0

notice_logged : In (entry (Party.Notary 1) (Paper.Notice n)) v₃.log
unfolding the_steps
notice_logged = inl refl

notice_possible : Possible setting v₃ (Paper.Notice n)
unfolding the_steps
notice_possible = (record { finding = off_sized; stamp = tt; signature = refl }, (((λ _ _. inr (inr (inl refl))), λ _ _. inr (inl refl)), λ _ _. notice_logged))

here₃ : v₃.sides 1 k ≡ Some e₂
unfolding the_steps
here₃ = refl

abbrev v₄ : World
v₄ = after_outcome v₃ 1 k (receive C e₂ (Paper.Notice n)) []

off₄ : Run setting start v₄
off₄ = more off₃ (hears 1 k e₂ (Paper.Notice n) tt here₃ notice_possible)

called_off : CalledOff
unfolding the_steps
called_off = record {
  world = v₄;
  reached = off₄;
  id = k;
  first = (receive C e₂ (Paper.Notice n)).0;
  here = refl;
  off = n;
  freed = refl;
  book = refl;
}

pub premises_met : PremisesMet
premises_met = (laws, sign_ok, both_bound, called_off)
