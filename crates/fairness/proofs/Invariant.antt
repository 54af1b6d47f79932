-- What holds in every world, and what of it lasts. Assumes nothing.
use Rattle.std.proofs.Common.{◌≡◌, ℕ, Bool, true, false, T, Some, refl, ap, ◌∙◌, subst}
use Rattle.papers.specs.declared.Party.{Party}
use Rattle.papers.specs.declared.Offer.{Offer}
use Rattle.papers.specs.declared.Acceptance.{Acceptance}
use Rattle.papers.specs.declared.Off.{Off}
use Rattle.papers.specs.declared.Finding.{Finding}
use Rattle.papers.specs.declared.Finding.TheVariants.{CalledOff, Standing}
use Rattle.papers.specs.declared.Notice.{Notice}
use Rattle.papers.specs.declared.Question.{Question}
use Rattle.papers.specs.declared.Paper.{Paper}
use Rattle.papers.specs.Encoding.{Bytes, about, Number, Digest, OfferSized, AcceptanceSized, OffSized, NoticeSized, QuestionSized, Sized}
use Rattle.signing.specs.Checks.{notary_of, off_signed, question_signed, sound}
use Rattle.contract.specs.declared.Contract.{Contract}
use Rattle.contract.specs.Contract.{notice_of, offer_in, contract}
use Rattle.exchange.specs.declared.Role.{Role}
use Rattle.exchange.specs.declared.Role.TheVariants.{First, Second}
use Rattle.exchange.specs.declared.State.{State}
use Rattle.exchange.specs.declared.State.TheVariants.{Offered, AskedOff, Said, AskedStands, Accepted, Asked, Bound, Free}
use Rattle.exchange.specs.declared.Exchange.{Exchange}
use Rattle.exchange.specs.Steps.{me_as, me, ended}
use Rattle.fairness.specs.World.{Setting, In, head, signature_of, Entry, entry, World, id_of, Backed, OfferBacked, AcceptanceBacked, FindingBacked, NoticeBacked}

-- states that a first side can be in after it has signed the wish to call off
abbrev pub wished : State → Bool
wished (AskedOff w t) = true
wished (Bound c) = true
wished (Free f) = true
wished s = false

-- states after it has asked
abbrev pub past : State → Bool
past Offered = false
past (Said a) = false
past (Accepted a) = false
past s = true

-- the exchange e has become d
pub record Follows (e d : Exchange) : Type 0 where
  pub role : d.role ≡ e.role
  pub offer : d.offer ≡ e.offer
  pub secret : d.secret ≡ e.secret
  pub wished : T (wished e.state) → T (wished d.state)
  pub past : T (past e.state) → T (past d.state)
  pub ended : T (ended e.state) → d ≡ e

pub follows_self : (e : Exchange) → Follows e e
follows_self e = record { role = refl; offer = refl; secret = refl; wished = λ t. t; past = λ t. t; ended = λ t. refl }

-- w has become v
pub record Later (w v : World) : Type 0 where
  pub sides : (p : ℕ) (k : Bytes) (e : Exchange) → w.sides p k ≡ Some e → (d : Exchange) × (v.sides p k ≡ Some d) × Follows e d
  pub books : (n : ℕ) (k : Bytes) (r : Notice) → w.books n k ≡ Some r → v.books n k ≡ Some r
  pub log : (t : Entry) → In t w.log → In t v.log
  pub out : (x : Bytes) → In x w.out → In x v.out

pub later_self : (w : World) → Later w w
later_self w = record { sides = λ p k e h. (e, h, follows_self e); books = λ n k r h. h; log = λ t i. i; out = λ x i. i }

-- the finding is that the offer is off
abbrev pub is_off : Finding → Bool
is_off (CalledOff f) = true
is_off (Standing a) = false

module _ (S : Setting) where
  abbrev pub Unsaid : World → Bytes → Type 0
  Unsaid w x = In x w.out → ⊥

  -- an acceptance that the first side keeps
  pub record Kept (w : World) (o : Offer) (a : Acceptance) : Type 0 where
    pub sound : T (sound S.scheme (Paper.Acceptance a))
    pub offer : a.offer ≡ o
    pub sized : AcceptanceSized a
    pub backed : AcceptanceBacked S w a

  -- the acceptance that the second side p has made with the secret x
  pub record Own (w : World) (p : ℕ) (x : Bytes) (a : Acceptance) : Type 0 where
    pub lock : a.lock ≡ S.scheme.digest x
    pub logged : In (entry (Party.Side p) (Paper.Acceptance a)) w.log

  -- the wish that the first side p has signed
  pub record OwnWish (w : World) (p : ℕ) (o : Offer) (f : Off) : Type 0 where
    pub offer : f.offer ≡ o
    pub sized : OffSized f
    pub signed : T (off_signed S.scheme f)
    pub logged : In (entry (Party.Side p) (Paper.Off f)) w.log

  -- the question that the side p has signed
  pub record OwnQuestion (w : World) (p : ℕ) (q : Question) : Type 0 where
    pub side : q.side ≡ p
    pub sized : QuestionSized q
    pub signed : T (question_signed S.scheme q)
    pub logged : In (entry (Party.Side p) (Paper.Question q)) w.log

  abbrev pub Held : World → Contract → Type 0
  Held w (Contract.Secrets a x y) = AcceptanceSized a × AcceptanceBacked S w a × In x w.out × In y w.out
  Held w (Contract.Stands s) = NoticeSized (notice_of s) × NoticeBacked S w (notice_of s)

  -- a notice about the offer o
  pub record Noted (w : World) (o : Offer) (n : Notice) : Type 0 where
    pub sound : T (sound S.scheme (Paper.Notice n))
    pub about : about n.finding ≡ o
    pub sized : NoticeSized n
    pub backed : NoticeBacked S w n

  abbrev pub StateGood : World → ℕ → Offer → Role → Bytes → State → Type 0
  StateGood w p o r x Offered = (r ≡ First) × Unsaid w x
  StateGood w p o r x (AskedOff f t) = (r ≡ First) × Unsaid w x × OwnWish w p o f
  StateGood w p o r x (Said a) = (r ≡ First) × Kept w o a × In x w.out
  StateGood w p o r x (AskedStands q t) = (r ≡ First) × Kept w o q.acceptance × In x w.out × OwnQuestion w p q
  StateGood w p o r x (Accepted a) = (r ≡ Second) × Kept w o a × Unsaid w x × Own w p x a
  StateGood w p o r x (Asked q t) = (r ≡ Second) × Kept w o q.acceptance × Unsaid w x × Own w p x q.acceptance × OwnQuestion w p q
  StateGood w p o r x (Bound c) = T (contract S.scheme c) × (offer_in c ≡ o) × Held w c
  StateGood w p o r x (Free f) = Unsaid w x × T (is_off f.finding) × Noted w o f

  abbrev pub RoleGood : ℕ → Offer → Bytes → Role → Type 0
  RoleGood p o x First = (o.first ≡ p) × (o.lock ≡ S.scheme.digest x)
  RoleGood p o x Second = o.second ≡ p

  pub record Good (w : World) (p : ℕ) (k : Bytes) (e : Exchange) : Type 0 where
    pub honest : T (S.honest (Party.Side p))
    pub key : id_of S e.offer ≡ k
    pub id : e.id ≡ k
    pub sound : T (sound S.scheme (Paper.Offer e.offer))
    pub sized : OfferSized e.offer
    pub backed : OfferBacked S w e.offer
    pub secret : Digest e.secret
    pub role : RoleGood p e.offer e.secret e.role
    pub state : StateGood w p e.offer e.role e.secret e.state

  -- where a signature of honest code comes from
  abbrev pub SideOrigin : World → ℕ → Paper → Type 0
  SideOrigin w p (Paper.Offer o) = (e : Exchange) × (w.sides p (id_of S o) ≡ Some e) × (e.offer ≡ o)
  SideOrigin w p (Paper.Acceptance a) = (e : Exchange) × (w.sides p (id_of S a.offer) ≡ Some e) × (e.role ≡ Second) × (S.scheme.digest e.secret ≡ a.lock) × (e.offer ≡ a.offer)
  SideOrigin w p (Paper.Off f) = (e : Exchange) × (w.sides p (id_of S f.offer) ≡ Some e) × T (wished e.state)
  SideOrigin w p x = Unit {0}

  -- what holds for ever of a notary that has signed: the notice is in its book
  abbrev pub NotaryOrigin : World → ℕ → Paper → Type 0
  NotaryOrigin w n (Paper.Notice m) = w.books n (id_of S (about m.finding)) ≡ Some m
  NotaryOrigin w n x = Unit {0}

  abbrev pub OriginBy : World → Party → Paper → Type 0
  OriginBy w (Party.Side p) x = SideOrigin w p x
  OriginBy w (Party.Notary n) x = NotaryOrigin w n x

  -- each entry of the log is a paper's, with the step that it comes from
  pub record Origin (w : World) (t : Entry) : Type 0 where
    pub paper : Paper
    pub sized : Sized paper
    pub message : t.message ≡ head paper
    pub signature : t.signature ≡ signature_of paper
    pub from : OriginBy w t.by paper

  pub record RowGood (w : World) (n : ℕ) (k : Bytes) (r : Notice) : Type 0 where
    pub key : id_of S (about r.finding) ≡ k
    pub notary : notary_of r ≡ n
    pub sound : T (sound S.scheme (Paper.Notice r))
    pub sized : NoticeSized r
    pub backed : NoticeBacked S w r

  pub record Inv (w : World) : Type 0 where
    pub good : (p : ℕ) (k : Bytes) (e : Exchange) → w.sides p k ≡ Some e → Good w p k e
    -- a secret is of one exchange
    pub alone : (p q : ℕ) (k j : Bytes) (e d : Exchange) → w.sides p k ≡ Some e → w.sides q j ≡ Some d → e.secret ≡ d.secret → (p ≡ q) × (k ≡ j)
    pub origin : (t : Entry) → In t w.log → Origin w t
    pub rows : (n : ℕ) (k : Bytes) (r : Notice) → w.books n k ≡ Some r → RowGood w n k r

  -- ---- what lasts
  module _ (w v : World) (l : Later w v) where
    pub later_backed : (p : Party) (x : Paper) → Backed S w p x → Backed S v p x
    later_backed p x b h t = l.log (entry p x) (b h t)

    pub later_acceptance : (a : Acceptance) → AcceptanceBacked S w a → AcceptanceBacked S v a
    later_acceptance a h = (λ x y. l.log _ (h.0 x y), λ x y. l.log _ (h.1 x y))

    pub later_finding : (f : Finding) → FindingBacked S w f → FindingBacked S v f
    later_finding (CalledOff f) h = (λ x y. l.log _ (h.0 x y), λ x y. l.log _ (h.1 x y))
    later_finding (Standing a) h = later_acceptance a h

    pub later_notice : (n : Notice) → NoticeBacked S w n → NoticeBacked S v n
    later_notice n h = (later_finding n.finding h.0, λ x y. l.log _ (h.1 x y))

    pub later_noted : (o : Offer) (n : Notice) → Noted w o n → Noted v o n
    later_noted o n h = record { sound = h.sound; about = h.about; sized = h.sized; backed = later_notice n h.backed }

    pub later_held : (c : Contract) → Held w c → Held v c
    later_held (Contract.Secrets a x y) h = (h.0, later_acceptance a h.1, l.out x h.2, l.out y h.3)
    later_held (Contract.Stands s) h = (h.0, later_notice (notice_of s) h.1)

    pub later_kept : (o : Offer) (a : Acceptance) → Kept w o a → Kept v o a
    later_kept o a h = record { sound = h.sound; offer = h.offer; sized = h.sized; backed = later_acceptance a h.backed }

    pub later_own : (p : ℕ) (x : Bytes) (a : Acceptance) → Own w p x a → Own v p x a
    later_own p x a h = record { lock = h.lock; logged = l.log _ h.logged }

    pub later_wish : (p : ℕ) (o : Offer) (f : Off) → OwnWish w p o f → OwnWish v p o f
    later_wish p o f h = record { offer = h.offer; sized = h.sized; signed = h.signed; logged = l.log _ h.logged }

    pub later_question : (p : ℕ) (q : Question) → OwnQuestion w p q → OwnQuestion v p q
    later_question p q h = record { side = h.side; sized = h.sized; signed = h.signed; logged = l.log _ h.logged }

    pub later_state : (p : ℕ) (o : Offer) (r : Role) (x : Bytes) → (Unsaid w x → Unsaid v x) → (s : State) → StateGood w p o r x s → StateGood v p o r x s
    later_state p o r x u Offered h = (h.0, u h.1)
    later_state p o r x u (AskedOff f t) h = (h.0, u h.1, later_wish p o f h.2)
    later_state p o r x u (Said a) h = (h.0, later_kept o a h.1, l.out x h.2)
    later_state p o r x u (AskedStands q t) h = (h.0, later_kept o q.acceptance h.1, l.out x h.2, later_question p q h.3)
    later_state p o r x u (Accepted a) h = (h.0, later_kept o a h.1, u h.2, later_own p x a h.3)
    later_state p o r x u (Asked q t) h = (h.0, later_kept o q.acceptance h.1, u h.2, later_own p x q.acceptance h.3, later_question p q h.4)
    later_state p o r x u (Bound c) h = (h.0, h.1, later_held c h.2)
    later_state p o r x u (Free f) h = (u h.0, h.1, later_noted o f h.2)

    -- an exchange that nothing was done in
    pub later_good : (p : ℕ) (k : Bytes) (e : Exchange) → (Unsaid w e.secret → Unsaid v e.secret) → Good w p k e → Good v p k e
    later_good p k e u g = record {
      honest = g.honest;
      key = g.key;
      id = g.id;
      sound = g.sound;
      sized = g.sized;
      backed = later_backed (Party.Side e.offer.first) (Paper.Offer e.offer) g.backed;
      secret = g.secret;
      role = g.role;
      state = later_state p e.offer e.role e.secret u e.state g.state;
    }

    later_side : (p : ℕ) (x : Paper) → SideOrigin w p x → SideOrigin v p x
    later_side p (Paper.Offer o) h = let n = l.sides _ _ _ h.1 in (n.0, n.1, n.2.offer ∙ h.2)
    later_side p (Paper.Acceptance a) h =
        let n = l.sides _ _ _ h.1 in (n.0, n.1, n.2.role ∙ h.2, ap S.scheme.digest n.2.secret ∙ h.3, n.2.offer ∙ h.4)
    later_side p (Paper.Off f) h = let n = l.sides _ _ _ h.1 in (n.0, n.1, n.2.wished h.2)
    later_side p x h = tt

    later_notary : (n : ℕ) (x : Paper) → NotaryOrigin w n x → NotaryOrigin v n x
    later_notary n (Paper.Notice m) h = l.books _ _ _ h
    later_notary n x h = tt

    later_by : (p : Party) (x : Paper) → OriginBy w p x → OriginBy v p x
    later_by (Party.Side p) x h = later_side p x h
    later_by (Party.Notary n) x h = later_notary n x h

    pub later_origin : (t : Entry) → Origin w t → Origin v t
    later_origin t h = record { paper = h.paper; sized = h.sized; message = h.message; signature = h.signature; from = later_by t.by h.paper h.from }

    pub later_row : (n : ℕ) (k : Bytes) (r : Notice) → RowGood w n k r → RowGood v n k r
    later_row n k r h = record { key = h.key; notary = h.notary; sound = h.sound; sized = h.sized; backed = later_notice r h.backed }

-- ---- what is good of an exchange, at its state and at its role
module _ {S : Setting} {w : World} {p : ℕ} {k : Bytes} {e : Exchange} (g : Good S w p k e) where
  pub in_state : {s : State} → e.state ≡ s → StateGood S w p e.offer e.role e.secret s
  in_state q = subst (StateGood S w p e.offer e.role e.secret) q g.state

  pub in_role : {r : Role} → e.role ≡ r → RoleGood S p e.offer e.secret r
  in_role q = subst (RoleGood S p e.offer e.secret) q g.role

  -- the number that it goes by is the side's
  pub mine : me e ≡ p
  mine = go e.role g.role
    where
      go : (r : Role) → RoleGood S p e.offer e.secret r → me_as r e.offer ≡ p
      go First h = h.0
      go Second h = h

  pub my_number : Number (me e)
  my_number = go e.role
    where
      go : (r : Role) → Number (me_as r e.offer)
      go First = g.sized.first
      go Second = g.sized.second
