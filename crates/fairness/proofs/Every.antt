-- Every step keeps what holds in every world. Assumes nothing.
use Rattle.std.proofs.Common.{◌≡◌, ℕ, Bool, T, eqb, ◌⊎◌, [], length, Some, None, Ok, Err, Option, Result, sym, refl, subst, inl, inr, arith, eqb→eq}
use Rattle.std.proofs.Math.Facts.{and_yes, yes_and}
use Rattle.std.proofs.lemmas.Option.{same_Some, none-some}
use Rattle.std.proofs.lemmas.Bool.{cond_both}
use Rattle.std.specs.Bool.{passes as T_from_true}
use Rattle.papers.specs.declared.Party.{Party}
use Rattle.papers.specs.declared.Terms.{Terms}
use Rattle.papers.specs.declared.Offer.{Offer}
use Rattle.papers.specs.declared.Acceptance.{Acceptance}
use Rattle.papers.specs.declared.Finding.{Finding}
use Rattle.papers.specs.declared.Finding.TheVariants.{CalledOff, Standing}
use Rattle.papers.specs.declared.Notice.{Notice}
use Rattle.papers.specs.declared.Refusal.{Refusal}
use Rattle.papers.specs.declared.Paper.{Paper}
use Rattle.papers.specs.Encoding.{Bytes, about, StampFits, OfferSized, AcceptanceSized, FindingSized, NoticeSized, Sized}
use Rattle.signing.specs.Scheme.{Scheme}
use Rattle.signing.specs.Checks.{else_fault, and_then, by_stamp, notary_of, offer_signed, acceptance_signed, notice_signed, refusal_signed, parties_known, finding_signed, vetted, sound}
use Rattle.exchange.specs.declared.Role.TheVariants.{First, Second}
use Rattle.exchange.specs.declared.State.TheVariants.{Offered, Accepted}
use Rattle.exchange.specs.declared.Exchange.{Exchange}
use Rattle.exchange.specs.declared.Post.{Post}
use Rattle.exchange.specs.declared.Effect.TheVariants.{Send}
use Rattle.exchange.specs.declared.Order.{Order}
use Rattle.exchange.specs.Steps.{new_offer, opened, refused_by, offer, new_acceptance, accept}
use Rattle.notary.specs.declared.Decision.{Decision}
use Rattle.notary.specs.Decision.{notice_in, names_by, names, found, stamped, fault, new_notice, new_refusal, writes, refuses, repeats, answer, refused, answer_to, decide}
use Rattle.fairness.specs.World.{Setting, Laws, In, Entry, entry, World, start, set, id_of, OfferBacked, FindingBacked, Possible, Fresh, OrderSized, after_side, row_in, offer_asked, book_row, decides, write, after_decision, Step, offers, accepts, asks, ticks, hears, asked, clock}
use Rattle.fairness.specs.Promise.{answers}
use Rattle.fairness.proofs.Basics.{set_here, set_all, set_keeps}
use Rattle.fairness.proofs.Backing.{vetted_sound, is_sound, sound_known, sound_signed}
use Rattle.fairness.proofs.Invariant.{follows_self, Later, later_self, Good, NotaryOrigin, Origin, RowGood, Inv, later_finding, later_row}
use Rattle.fairness.proofs.Moves.{signed_one, put_unsaid, joined, still_inv, clock_inv}
use Rattle.fairness.proofs.Steps.{receive_goal, ask_goal, tick_goal}

-- what an opening that was not refused is
opening : (C : Scheme) (sign : Bytes → Bytes) (r : Option ℕ) (x y : Exchange × Post) → refused_by C sign r (Ok x) ≡ Ok y → (r ≡ None) × (x ≡ y)
opening C sign r x y q = grind arith

pub offer_is : (C : Scheme) (sign : Bytes → Bytes) (d : Order) (y : Exchange × Post) → offer C sign d ≡ Ok y →
    let o : Offer = new_offer C sign d in (vetted C (Paper.Offer o) ≡ None) × ◌≡◌ {A = Exchange × Post} (opened C sign First o d.secret Offered, record { to = Party.Side d.second; paper = Paper.Offer o }) y
unfolding offer
offer_is C sign d y q = opening C sign (vetted C (Paper.Offer (new_offer C sign d))) _ y q

pub accept_is : (C : Scheme) (sign : Bytes → Bytes) (p : ℕ) (o : Offer) (x : Bytes) (y : Exchange × Post) → accept C sign p o x ≡ Ok y →
    let a : Acceptance = new_acceptance C sign o x in
    (and_then (vetted C (Paper.Offer o)) (else_fault (eqb o.second p) 4 (else_fault (acceptance_signed C a) 3 None)) ≡ None)
    × ◌≡◌ {A = Exchange × Post} (opened C sign Second o x (Accepted a), record { to = Party.Side o.first; paper = Paper.Acceptance a }) y
unfolding accept
accept_is C sign p o x y q = opening C sign (and_then (vetted C (Paper.Offer o)) (else_fault (eqb o.second p) 4 (else_fault (acceptance_signed C (new_acceptance C sign o x)) 3 None))) _ y q

-- ---- a row of the book and back; what plain terms make of a finding
pub row_back : (m : Option Notice) → notice_in (row_in m) ≡ m
row_back None = refl
row_back (Some n) = grind arith

pub found_is : (m : Terms) (c : ℕ) (f : Finding) → found m c f ≡ f
found_is Terms.Plain c f = refl

pub stamped_by : (m : Terms) (c named n : ℕ) → T (names_by m named n) → by_stamp (stamped m c) named ≡ n
stamped_by Terms.Plain c named n t = eqb→eq named n t

pub stamped_fits : (m : Terms) (c : ℕ) → StampFits m (stamped m c)
stamped_fits Terms.Plain c = tt

module _ (S : Setting) (L : Laws S) where
  abbrev Goal : World → World → Type 0
  Goal w v = Later w v × Inv S v

  -- ---- a new offer
  offers_goal : (w : World) → Inv S w → (d : Order) (e : Exchange) (m : Post) → T (S.honest (Party.Side d.first)) → OrderSized d → Fresh S w d.secret → offer S.scheme (S.sign (Party.Side d.first)) d ≡ Ok (e, m) → w.sides d.first e.id ≡ None →
      Goal w (after_side w d.first e.id e (Send m) [])
  unfolding new_offer
  offers_goal w I d e m hon z fresh q free = subst P r.1 made free
    where
      p : ℕ
      p = d.first

      o : Offer
      o = new_offer S.scheme (S.sign (Party.Side d.first)) d

      e₀ : Exchange
      e₀ = opened S.scheme (S.sign (Party.Side d.first)) First o d.secret Offered

      m₀ : Post
      m₀ = record { to = Party.Side d.second; paper = Paper.Offer o }

      r : (vetted S.scheme (Paper.Offer o) ≡ None) × ◌≡◌ {A = Exchange × Post} (e₀, m₀) (e, m)
      r = offer_is S.scheme (S.sign (Party.Side d.first)) d (e, m) q

      P : Exchange × Post → Type 0
      P x = w.sides d.first x.0.id ≡ None → Goal w (after_side w d.first x.0.id x.0 (Send x.1) [])

      okay : T (sound S.scheme (Paper.Offer o))
      okay = vetted_sound S.scheme (Paper.Offer o) r.0

      sized : OfferSized o
      sized = record { first = z.first; second = z.second; notary = z.notary; text = z.text; lock = L.digest_size d.secret; signature = L.sign_size (Party.Side p) _ }

      made : P (e₀, m₀)
      made none = joined S w p e₀.id e₀ (Send m₀) (λ x i. i) none fresh I good (signed_one S _ p (Paper.Offer o) sized (e₀, set_here p e₀.id e₀ w.sides, refl))
        where
          good : Good S (after_side w p e₀.id e₀ (Send m₀) []) p e₀.id e₀
          good = record {
            honest = hon;
            key = refl;
            id = refl;
            sound = okay;
            sized = sized;
            backed = λ _ _. inl refl;
            secret = z.secret;
            role = (refl, refl);
            state = (refl, put_unsaid S w p e₀.id e₀ (Send m₀) [] d.secret (λ i. i) (λ i. absurd i) fresh.1);
          }

  -- ---- an offer is accepted
  accepts_goal : (w : World) → Inv S w → (p : ℕ) (o : Offer) (x : Bytes) (e : Exchange) (m : Post) → T (S.honest (Party.Side p)) → OfferSized o → OfferBacked S w o → length x ≡ 32 → Fresh S w x → accept S.scheme (S.sign (Party.Side p)) p o x ≡ Ok (e, m) → w.sides p e.id ≡ None →
      Goal w (after_side w p e.id e (Send m) [])
  unfolding new_acceptance
  accepts_goal w I p o x e m hon sized backed size fresh q free = subst P r.1 made free
    where
      a : Acceptance
      a = new_acceptance S.scheme (S.sign (Party.Side p)) o x

      e₀ : Exchange
      e₀ = opened S.scheme (S.sign (Party.Side p)) Second o x (Accepted a)

      m₀ : Post
      m₀ = record { to = Party.Side o.first; paper = Paper.Acceptance a }

      faults : Option ℕ
      faults = and_then (vetted S.scheme (Paper.Offer o)) (else_fault (eqb o.second p) 4 (else_fault (acceptance_signed S.scheme a) 3 None))

      r : (faults ≡ None) × ◌≡◌ {A = Exchange × Post} (e₀, m₀) (e, m)
      r = accept_is S.scheme (S.sign (Party.Side p)) p o x (e, m) q

      P : Exchange × Post → Type 0
      P y = w.sides p y.0.id ≡ None → Goal w (after_side w p y.0.id y.0 (Send y.1) [])

      tests : (vetted S.scheme (Paper.Offer o) ≡ None) × T (eqb o.second p) × T (acceptance_signed S.scheme a)
      tests = let none : faults ≡ None = r.0 in grind arith

      okay : T (sound S.scheme (Paper.Offer o))
      okay = vetted_sound S.scheme (Paper.Offer o) tests.0

      mine : o.second ≡ p
      mine = eqb→eq o.second p tests.1

      fine : T (sound S.scheme (Paper.Acceptance a))
      fine = is_sound S.scheme (Paper.Acceptance a) (sound_known S.scheme (Paper.Offer o) okay) (yes_and (offer_signed S.scheme o) _ (sound_signed S.scheme (Paper.Offer o) okay) tests.2)

      a_sized : AcceptanceSized a
      a_sized = record { offer = sized; lock = L.digest_size x; signature = L.sign_size (Party.Side p) _ }

      made : P (e₀, m₀)
      made none = joined S w p e₀.id e₀ (Send m₀) (λ y i. i) none fresh I good (signed_one S v p (Paper.Acceptance a) a_sized (e₀, set_here p e₀.id e₀ w.sides, refl, refl, refl))
        where
          v : World
          v = after_side w p e₀.id e₀ (Send m₀) []

          good : Good S v p e₀.id e₀
          good = record {
            honest = hon;
            key = refl;
            id = refl;
            sound = okay;
            sized = sized;
            backed = λ h t. inr (backed h t);
            secret = size;
            role = mine;
            state = (
              refl,
              record { sound = fine; offer = refl; sized = a_sized; backed = (λ h t. inr (backed h t), λ _ _. subst (λ j. In (entry (Party.Side j) (Paper.Acceptance a)) v.log) (sym mine) (inl refl)) },
              put_unsaid S w p e₀.id e₀ (Send m₀) [] x (λ i. i) (λ i. absurd i) fresh.1,
              record { lock = refl; logged = inl refl },
            );
          }

  -- ---- THE NOTARY
  module _ (w : World) (I : Inv S w) (n : ℕ) (hon : T (S.honest (Party.Notary n))) where
    -- and the answer can be sent on
    abbrev After : Result Decision ℕ → Type 0
    After d = Goal w (after_decision S w n d) × ((y : Paper) → answers S d ≡ Some y → Possible S (after_decision S w n d) y)

    nothing : (k : ℕ) → After (Err k)
    nothing k = ((later_self w, I), λ y h. absurd (none-some _ h))

    -- what its book has stays
    said_later : (d : Decision) → ((j : ℕ) (k : Bytes) (r : Notice) → w.books j k ≡ Some r → write S n d.write w.books j k ≡ Some r) → Later w (after_decision S w n (Ok d))
    said_later d keeps = record { sides = λ p k e h. (e, h, follows_self e); books = keeps; log = λ t i. inr i; out = λ x i. i }

    -- it says an answer that comes from its book
    said : (d : Decision) → Later w (after_decision S w n (Ok d)) → Possible S (after_decision S w n (Ok d)) d.answer → NotaryOrigin S (after_decision S w n (Ok d)) n d.answer →
        ((j : ℕ) (k : Bytes) (r : Notice) → write S n d.write w.books j k ≡ Some r → (w.books j k ≡ Some r) ⊎ RowGood S (after_decision S w n (Ok d)) j k r) → After (Ok d)
    said d later pos from rows = ((later, still_inv S w v later refl refl I origin rows), λ y h. subst (Possible S v) (same_Some _ _ h) pos)
      where
        v : World
        v = after_decision S w n (Ok d)

        origin : (t : Entry) → (t ≡ entry (Party.Notary n) d.answer) ⊎ In t w.log → In t w.log ⊎ Origin S v t
        origin t (inl h) = inr (subst (Origin S v) (sym h) (record { paper = d.answer; sized = pos.0; message = refl; signature = refl; from = from }))
        origin t (inr i) = inl i

    -- it says again what is in its book
    repeats_goal : (q : ℕ) (o : Offer) (m : Notice) → w.books n (id_of S o) ≡ Some m → After (repeats S.scheme (S.sign (Party.Notary n)) q m)
    repeats_goal q o m there = said d later (again.sized, again.backed) (subst (λ k. w.books n k ≡ Some m) (sym again.key) there) (λ j k r h. inl h)
      where
        d : Decision
        d = record { write = None; to = q; answer = Paper.Notice m }

        later : Later w (after_decision S w n (Ok d))
        later = said_later d (λ j k r h. h)

        again : RowGood S (after_decision S w n (Ok d)) n (id_of S o) m
        again = later_row S w _ later n (id_of S o) m (I.rows n (id_of S o) m there)

    -- it has no room
    refuses_goal : (q : ℕ) (r : Refusal) → Sized (Paper.Refusal r) → After (refuses S.scheme (S.sign (Party.Notary n)) n q r)
    refuses_goal q r sized = cond_both (refusal_signed S.scheme n r) (Ok d) (Err 3) After (λ _. said d (said_later d (λ j k r h. h)) (sized, tt) tt (λ j k r h. inl h)) (λ _. nothing 3)
      where
        d : Decision
        d = record { write = None; to = q; answer = Paper.Refusal r }

    -- it writes a row, and says it
    writes_goal : (q : ℕ) (m : Notice) → w.books n (id_of S (about m.finding)) ≡ None → NoticeSized m → notary_of m ≡ n → T (parties_known S.scheme (about m.finding)) → T (finding_signed S.scheme m.finding) → FindingBacked S w m.finding → After (writes S.scheme (S.sign (Party.Notary n)) q m)
    writes_goal q m none sized mine there okay backed = cond_both (notice_signed S.scheme m) (Ok d) (Err 3) After (λ t. wrote (T_from_true _ t)) (λ _. nothing 3)
      where
        d : Decision
        d = record { write = Some m; to = q; answer = Paper.Notice m }

        v : World
        v = after_decision S w n (Ok d)

        k₀ : Bytes
        k₀ = id_of S (about m.finding)

        later : Later w v
        later = said_later d (λ j k r h. keep j k r h (set_keeps n k₀ m w.books j k r h))
          where
            keep : (j : ℕ) (k : Bytes) (r : Notice) → w.books j k ≡ Some r → ((j ≡ n) × (k ≡ k₀)) ⊎ (set n k₀ m w.books j k ≡ Some r) → set n k₀ m w.books j k ≡ Some r
            keep j k r h (inl s) = cc
            keep j k r h (inr s) = s

        wrote : T (notice_signed S.scheme m) → After (Ok d)
        wrote t = said d later (sized, new.backed) (set_here n k₀ m w.books) (set_all n k₀ m w.books (λ j k r. (w.books j k ≡ Some r) ⊎ RowGood S v j k r) (inr new) (λ j k r h _. inl h))
          where
            new : RowGood S v n k₀ m
            new = record {
              key = refl;
              notary = mine;
              sound = is_sound S.scheme (Paper.Notice m) there (yes_and (finding_signed S.scheme m.finding) _ okay t);
              sized = sized;
              backed = (later_finding S w v later m.finding backed, λ _ _. subst (λ j. In (entry (Party.Notary j) (Paper.Notice m)) v.log) (sym mine) (inl refl));
            }

    -- it is asked for the finding f by the side q
    answer_goal : (room : Bool) (q : ℕ) (f : Finding) → FindingSized f → T (names (about f) n) → T (parties_known S.scheme (about f)) → T (finding_signed S.scheme f) → FindingBacked S w f →
        (m : Option Notice) → w.books n (id_of S (about f)) ≡ m → After (answer S.scheme (S.sign (Party.Notary n)) n (w.clocks n) m room q f)
    unfolding new_notice new_refusal
    answer_goal room q f sized named there okay backed (Some m) h = repeats_goal q (about f) m h
    answer_goal room q f sized named there okay backed None h =
        cond_both room (writes S.scheme (S.sign (Party.Notary n)) q (notice (found (about f).terms (w.clocks n) f))) (refuses S.scheme (S.sign (Party.Notary n)) n q (new_refusal S.scheme (S.sign (Party.Notary n)) (about f))) After
        (λ _. subst (λ z. After (writes S.scheme (S.sign (Party.Notary n)) q (notice z))) (sym (found_is (about f).terms (w.clocks n) f)) wrote)
        (λ _. refuses_goal q (new_refusal S.scheme (S.sign (Party.Notary n)) (about f)) (record { offer = L.digest_size _; signature = L.sign_size (Party.Notary n) _ }))
      where
        notice : Finding → Notice
        notice z = new_notice S.scheme (S.sign (Party.Notary n)) (w.clocks n) z

        wrote : After (writes S.scheme (S.sign (Party.Notary n)) q (notice f))
        wrote = writes_goal q (notice f) h (record { finding = sized; stamp = stamped_fits (about f).terms (w.clocks n); signature = L.sign_size (Party.Notary n) _ }) (stamped_by (about f).terms (w.clocks n) (about f).notary n named) there okay backed

    -- by what is wrong with the message
    judged : (k : Option ℕ) (x : Paper) (m : Option Notice) (room : Bool) → (k ≡ None → After (answer_to S.scheme (S.sign (Party.Notary n)) n (w.clocks n) m room x)) → After (refused S.scheme (S.sign (Party.Notary n)) k (answer_to S.scheme (S.sign (Party.Notary n)) n (w.clocks n) m room x))
    judged None x m room h = h refl
    judged (Some k) x m room h = nothing k

    answer_to_goal : (room : Bool) (x : Paper) → Possible S w x → fault S.scheme n x ≡ None → After (answer_to S.scheme (S.sign (Party.Notary n)) n (w.clocks n) (notice_in (book_row S w n (offer_asked x))) room x)
    answer_to_goal room (Paper.Off f) pos none =
        let s : T (sound S.scheme (Paper.Off f)) = grind (arith, vetted_sound) in
        let b : T (names f.offer n) = grind arith in
        answer_goal room f.offer.first (CalledOff f) pos.0 b (sound_known S.scheme (Paper.Off f) s) (sound_signed S.scheme (Paper.Off f) s) pos.1 (notice_in (row_in (w.books n (id_of S f.offer)))) (sym (row_back (w.books n (id_of S f.offer))))
    answer_to_goal room (Paper.Question q) pos none =
        let o : Offer = q.acceptance.offer in
        let s : T (sound S.scheme (Paper.Question q)) = grind (arith, vetted_sound) in
        let b : T (names o n) = grind arith in
        answer_goal room q.side (Standing q.acceptance) pos.0.acceptance b (and_yes (parties_known S.scheme o) _ (sound_known S.scheme (Paper.Question q) s)).0
        (and_yes (finding_signed S.scheme (Standing q.acceptance)) _ (sound_signed S.scheme (Paper.Question q) s)).0 pos.1.0 (notice_in (row_in (w.books n (id_of S o)))) (sym (row_back (w.books n (id_of S o))))
    answer_to_goal room x pos none = nothing 10

    pub asked_goal : (room : Bool) (x : Paper) → Possible S w x → After (decides S w n room x)
    unfolding decide
    asked_goal room x pos = judged (fault S.scheme n x) x (notice_in (book_row S w n (offer_asked x))) room (answer_to_goal room x pos)

  -- ---- every step
  pub step_inv : (w v : World) → Inv S w → Step S w v → Later w v × Inv S v
  step_inv w v I (offers d e m hon z fresh q free) = offers_goal w I d e m hon z fresh q free
  step_inv w v I (accepts p o x e m hon z back size fresh q free) = accepts_goal w I p o x e m hon z back size fresh q free
  step_inv w v I (asks p k e hon here) = ask_goal S L w p k e here I
  step_inv w v I (ticks p k e hon here) = tick_goal S L w p k e here I
  step_inv w v I (hears p k e x hon here pos) = receive_goal S L w p k e here I x pos
  step_inv w v I (asked n room x hon pos) = (asked_goal w I n hon room x pos).0
  step_inv w v I (clock n c h) = clock_inv S w n c I

  pub start_inv : Inv S start
  start_inv = record {
    good = λ p k e h. absurd (none-some _ h);
    alone = λ p q k j e d h i s. absurd (none-some _ h);
    origin = λ t i. absurd i;
    rows = λ n k r h. absurd (none-some _ h);
  }
