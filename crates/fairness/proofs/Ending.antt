-- Nobody need wait: a side that asks is answered, and ends by the answer. Assumes nothing.
use Rattle.std.proofs.Common.{◌≡◌, ℕ, Bool, true, false, ◌&&◌, ◌||◌, T, ◌⊎◌, [], ◌∷◌, replicate, is_some, Some, None, Ok, Err, Option, Result, sym, refl, ap, ◌∙◌, subst, inl, inr, arith}
use Rattle.std.proofs.Math.Facts.{and_yes, yes_and, yes_eqb}
use Rattle.std.proofs.lemmas.Option.{same_Some}
use Rattle.std.proofs.lemmas.Bool.Decides.{Decides-eqb}
use Rattle.papers.specs.declared.Party.{Party}
use Rattle.papers.specs.declared.Terms.{Terms}
use Rattle.papers.specs.declared.Offer.{Offer}
use Rattle.papers.specs.declared.Acceptance.{Acceptance}
use Rattle.papers.specs.declared.Off.{Off}
use Rattle.papers.specs.declared.Finding.{Finding}
use Rattle.papers.specs.declared.Finding.TheVariants.{CalledOff, Standing}
use Rattle.papers.specs.declared.Notice.{Notice}
use Rattle.papers.specs.declared.Question.{Question}
use Rattle.papers.specs.declared.Paper.{Paper}
use Rattle.papers.specs.Encoding.{Bytes, offer_bytes, off_head, question_head, notice_head, about, OffSized, QuestionSized, FindingSized}
use Rattle.signing.specs.Checks.{else_fault, and_then, party_of, offer_signed, off_signed, notice_signed, question_signed, parties_known, finding_signed, vetted, sound}
use Rattle.exchange.specs.declared.Role.{Role}
use Rattle.exchange.specs.declared.Role.TheVariants.{First, Second}
use Rattle.exchange.specs.declared.State.{State}
use Rattle.exchange.specs.declared.State.TheVariants.{Offered, AskedOff, Said, AskedStands, Accepted, Asked, Bound, Free}
use Rattle.exchange.specs.declared.Exchange.{Exchange}
use Rattle.exchange.specs.Steps.{with_state, refuse, go_on, me_as, me, to_notary, ended, answered, answered_said, step_in, step, addressed, concerns, checked, fault, unless, receive, new_wish, new_question, ask_by, ask_in, ask}
use Rattle.notary.specs.declared.Decision.{Decision}
use Rattle.notary.specs.Decision as notary
use Rattle.notary.specs.Decision.{names_by, names, found, row_of, notice_in, new_notice, answer, answer_to, refused, decide}
use Rattle.fairness.specs.World.{Setting, Laws, entry, World, set, id_of, OfferBacked, FindingBacked, offer_asked, book_row, Possible, effect_in, after_side, after_outcome, decides, write, after_decision, Run, asks, asked}
use Rattle.fairness.specs.Promise.{own_strings, Collision, SignOk, answers, sends, Ends}
use Rattle.fairness.proofs.Basics.{passes, eq→same, set_here}
use Rattle.fairness.proofs.Backing.{about_sized, sound_vetted, is_sound, sound_known, sound_signed}
use Rattle.fairness.proofs.Invariant.{wished, past, Later, Kept, Good, RowGood, Inv, later_row, in_state, in_role, mine, my_number}
use Rattle.fairness.proofs.Every.{row_back, found_is, stamped_by, step_inv}
use Rattle.fairness.proofs.Main.{later_on, run_inv, one_offer, wish_origin}

names_self : (m : Terms) (a b : ℕ) → a ≡ b → T (names_by m a b)
names_self Terms.Plain a b q = yes_eqb q

module _ (S : Setting) (L : Laws S) where
  -- no fault is found: the step is taken
  pub heard : (e : Exchange) (x : Paper) → fault S.scheme e x ≡ None → receive S.scheme e x ≡ step e x
  unfolding receive
  heard e x q = ap (λ r. unless S.scheme r e x) q

  -- a paper of this exchange's offer passes, if it is sound and goes to this side
  pub checks : (e : Exchange) (x : Paper) → T (sound S.scheme x) → T (addressed (me e) x) → T (concerns e x) → checked S.scheme e x ≡ None
  unfolding checked
  checks e x s a c = let none : vetted S.scheme x ≡ None = sound_vetted S.scheme x s in grind arith

  -- a question that passes is answered by the row in the book
  unfaulted : (v : World) (n : ℕ) (room : Bool) (x : Paper) (o : Offer) → notary.fault S.scheme n x ≡ None → offer_asked x ≡ Some o →
      decides S v n room x ≡ answer_to S.scheme (S.sign (Party.Notary n)) n (v.clocks n) (v.books n (id_of S o)) room x
  unfolding decide
  unfaulted v n room x o none about_o =
      ap (λ z. refused S.scheme (S.sign (Party.Notary n)) z (answer_to S.scheme (S.sign (Party.Notary n)) n (v.clocks n) (notice_in (book_row S v n (offer_asked x))) room x)) none
      ∙ ap (λ z. answer_to S.scheme (S.sign (Party.Notary n)) n (v.clocks n) z room x) (ap (λ z. notice_in (book_row S v n z)) about_o ∙ row_back (v.books n (id_of S o)))

  module _ (w : World) (I : Inv S w) (p : ℕ) (k : Bytes) (e : Exchange) (here : w.sides p k ≡ Some e) where
    g : Good S w p k e
    g = I.good p k e here

    -- it is a party of its offer
    pub party : T (party_of (me e) e.offer)
    party = grind (arith, Decides-eqb)

    -- ---- WHAT IT ASKS, and what the notary makes of it
    pub record Asking : Type 0 where
      pub next : State
      pub paper : Paper
      pub is : ask S.scheme (S.sign (Party.Side p)) e ≡ go_on e next (to_notary e paper)
      pub past : T (past next)
      pub asker : ℕ
      pub finding : Finding
      pub about : about finding ≡ e.offer
      pub possible : (v : World) → Later (after_side w p k (with_state e next) (to_notary e paper) []) v → Possible S v paper
      pub decided : (v : World) (n : ℕ) (room : Bool) → e.offer.notary ≡ n → decides S v n room paper ≡ answer S.scheme (S.sign (Party.Notary n)) n (v.clocks n) (v.books n (id_of S e.offer)) room asker finding

    -- by the wish to call off
    by_wish : (f : Off) → f.offer ≡ e.offer → OffSized f → T (off_signed S.scheme f) → e.role ≡ First → ask S.scheme (S.sign (Party.Side p)) e ≡ go_on e (AskedOff f 0) (to_notary e (Paper.Off f)) → Asking
    by_wish f same sized okay first is = record {
      next = AskedOff f 0;
      paper = Paper.Off f;
      is = is;
      past = tt;
      asker = f.offer.first;
      finding = CalledOff f;
      about = same;
      possible = λ v l. (sized, (subst (OfferBacked S v) (sym same) (λ x y. l.log _ (inr (g.backed x y))), λ _ _. l.log _ (inl (ap (λ z. entry (Party.Side z) (Paper.Off f)) (ap (λ o. o.first) same ∙ (in_role g first).0)))));
      decided = λ v n room q. unfaulted v n room (Paper.Off f) e.offer (no_fault n q) (ap Some same);
    }
      where
        okay_paper : T (sound S.scheme (Paper.Off f))
        okay_paper =
            let its : T (sound S.scheme (Paper.Offer f.offer)) = subst (λ o. T (sound S.scheme (Paper.Offer o))) (sym same) g.sound in
            is_sound S.scheme (Paper.Off f) (sound_known S.scheme (Paper.Offer f.offer) its) (yes_and (offer_signed S.scheme f.offer) _ (sound_signed S.scheme (Paper.Offer f.offer) its) okay)

        no_fault : (n : ℕ) → e.offer.notary ≡ n → notary.fault S.scheme n (Paper.Off f) ≡ None
        no_fault n q =
            ap (λ z. and_then z (else_fault (names f.offer n) 4 None)) (sound_vetted S.scheme (Paper.Off f) okay_paper)
            ∙ passes (names f.offer n) None (Some 4) (subst (λ o. T (names o n)) (sym same) (names_self e.offer.terms e.offer.notary n q))

    -- by an acceptance
    by_question : (s : State) (x : Question) → Kept S w e.offer x.acceptance → QuestionSized x → T (question_signed S.scheme x) → x.side ≡ p → T (past s) → ask S.scheme (S.sign (Party.Side p)) e ≡ go_on e s (to_notary e (Paper.Question x)) → Asking
    by_question s x kept sized okay its pa is = record {
      next = s;
      paper = Paper.Question x;
      is = is;
      past = pa;
      asker = x.side;
      finding = Standing x.acceptance;
      about = kept.offer;
      possible = λ v l. (sized, ((λ a b. l.log _ (inr (kept.backed.0 a b)), λ a b. l.log _ (inr (kept.backed.1 a b))), λ _ _. l.log _ (inl (ap (λ z. entry (Party.Side z) (Paper.Question x)) its))));
      decided = λ v n room q. unfaulted v n room (Paper.Question x) e.offer (no_fault n q) (ap Some kept.offer);
    }
      where
        listed : T (S.scheme.lists (Party.Side x.side))
        listed = subst (λ z. T (S.scheme.lists (Party.Side z))) (mine g ∙ sym its) (go e.role)
          where
            all : T (parties_known S.scheme e.offer)
            all = sound_known S.scheme (Paper.Offer e.offer) g.sound

            go : (r : Role) → T (S.scheme.lists (Party.Side (me_as r e.offer)))
            go First = (and_yes (S.scheme.lists (Party.Side e.offer.first)) _ all).0
            go Second = (and_yes (S.scheme.lists (Party.Side e.offer.second)) _ (and_yes (S.scheme.lists (Party.Side e.offer.first)) _ all).1).0

        okay_paper : T (sound S.scheme (Paper.Question x))
        okay_paper = is_sound S.scheme (Paper.Question x) (yes_and (parties_known S.scheme x.acceptance.offer) _ (sound_known S.scheme (Paper.Acceptance x.acceptance) kept.sound) listed)
            (yes_and (finding_signed S.scheme (Standing x.acceptance)) _ (sound_signed S.scheme (Paper.Acceptance x.acceptance) kept.sound) okay)

        asker_party : T (party_of x.side x.acceptance.offer)
        asker_party = subst (λ z. T (party_of x.side z)) (sym kept.offer) (subst (λ z. T (party_of z e.offer)) (mine g ∙ sym its) party)

        no_fault : (n : ℕ) → e.offer.notary ≡ n → notary.fault S.scheme n (Paper.Question x) ≡ None
        no_fault n q =
            ap (λ z. and_then z (else_fault (names x.acceptance.offer n && party_of x.side x.acceptance.offer) 4 None)) (sound_vetted S.scheme (Paper.Question x) okay_paper)
            ∙ passes (names x.acceptance.offer n && party_of x.side x.acceptance.offer) None (Some 4)
            (yes_and (names x.acceptance.offer n) _ (subst (λ z. T (names z n)) (sym kept.offer) (names_self e.offer.terms e.offer.notary n q)) asker_party)

    own_wish : SignOk S (Party.Side p) → e.role ≡ First → T (off_signed S.scheme (new_wish S.scheme (S.sign (Party.Side p)) e.offer))
    unfolding off_signed new_wish off_head
    own_wish ok first =
        subst (λ z. T (S.scheme.accepts (Party.Side z) (4 ∷ offer_bytes e.offer) (S.sign (Party.Side p) (4 ∷ offer_bytes e.offer)))) (sym (in_role g first).0) (ok (4 ∷ offer_bytes e.offer))

    own_question : SignOk S (Party.Side p) → (a : Acceptance) → T (question_signed S.scheme (new_question S.scheme (S.sign (Party.Side p)) (me e) a))
    unfolding question_signed new_question question_head
    own_question ok a =
        let m : Bytes = question_head (record { side = me e; acceptance = a; signature = replicate 64 0 }) in
        subst (λ z. T (S.scheme.accepts (Party.Side z) m (S.sign (Party.Side p) m))) (sym (mine g)) (ok m)

    -- a question that it signs now
    by_new : SignOk S (Party.Side p) → (next : Question → ℕ → State) → ((x : Question) → T (past (next x 0))) → (a : Acceptance) → Kept S w e.offer a →
        ask S.scheme (S.sign (Party.Side p)) e ≡ ask_by S.scheme (S.sign (Party.Side p)) e next (new_question S.scheme (S.sign (Party.Side p)) (me e) a) → Asking
    unfolding new_question
    by_new ok next pa a kept is =
        let x : Question = new_question S.scheme (S.sign (Party.Side p)) (me e) a in
        let okay = own_question ok a in
        by_question (next x 0) x kept (record { side = my_number g; acceptance = kept.sized; signature = L.sign_size (Party.Side p) _ }) okay (mine g) (pa x)
        (is ∙ passes (question_signed S.scheme x) (go_on e (next x 0) (to_notary e (Paper.Question x))) (refuse e 3) okay)

    pub asks_well : SignOk S (Party.Side p) → (s : State) → e.state ≡ s → (T (ended s) → ⊥) → Asking
    unfolding ask new_wish new_question
    asks_well ok Offered q going =
        let was = in_state g q in
        let f : Off = new_wish S.scheme (S.sign (Party.Side p)) e.offer in
        let okay = own_wish ok was.0 in
        by_wish f refl (record { offer = g.sized; signature = L.sign_size (Party.Side p) _ }) okay was.0
        (ap (ask_in S.scheme (S.sign (Party.Side p)) e) q ∙ passes (off_signed S.scheme f) (go_on e (AskedOff f 0) (to_notary e (Paper.Off f))) (refuse e 3) okay)
    asks_well ok (AskedOff f t) q going =
        let was = in_state g q in by_wish f was.2.offer was.2.sized was.2.signed was.0 (ap (ask_in S.scheme (S.sign (Party.Side p)) e) q)
    asks_well ok (Said a) q going = by_new ok AskedStands (λ x. tt) a (in_state g q).1 (ap (ask_in S.scheme (S.sign (Party.Side p)) e) q)
    asks_well ok (AskedStands x t) q going =
        let was = in_state g q in by_question (AskedStands x 0) x was.1 was.3.sized was.3.signed was.3.side tt (ap (ask_in S.scheme (S.sign (Party.Side p)) e) q)
    asks_well ok (Accepted a) q going = by_new ok Asked (λ x. tt) a (in_state g q).1 (ap (ask_in S.scheme (S.sign (Party.Side p)) e) q)
    asks_well ok (Asked x t) q going =
        let was = in_state g q in by_question (Asked x 0) x was.1 was.4.sized was.4.signed was.4.side tt (ap (ask_in S.scheme (S.sign (Party.Side p)) e) q)
    asks_well ok s q going = absurd (going tt)

    -- ---- THE ANSWER COMES to a side that has asked
    heed_ends : (m : Terms) (n : Notice) (f : Finding) → T (ended (answered m e n f).0.state)
    heed_ends m n f = grind arith

    said_ends : (m : Terms) (n : Notice) (f : Finding) (a : Acceptance) → f ≡ Standing a → T (ended (answered_said m e n f).0.state)
    said_ends m n f a q = grind arith

    abbrev End : Notice → Type 0
    End r = T (ended e.state) ⊎ (T (ended (receive S.scheme e (Paper.Notice r)).0.state) ⊎ Collision S (offer_bytes (about r.finding) ∷ own_strings S e))

    pub answered_well : (r : Notice) (n : ℕ) → RowGood S w n k r → T (past e.state) → End r
    unfolding step
    answered_well r n row pa = go (one_offer S L w I (about r.finding) e.offer (offer_bytes (about r.finding) ∷ own_strings S e) (about_sized r.finding row.sized.finding) g.sized (row.key ∙ sym g.key) (inl refl) (inr (inl refl)))
      where
        comes : about r.finding ≡ e.offer → receive S.scheme e (Paper.Notice r) ≡ step_in e e.state (Paper.Notice r)
        comes same = heard e (Paper.Notice r) (checks e (Paper.Notice r) row.sound (subst (λ o. T (party_of (me e) o)) (sym same) party) (eq→same _ _ (ap offer_bytes same)))

        off_row : about r.finding ≡ e.offer → (f : Off) → r.finding ≡ CalledOff f → e.role ≡ First → T (wished e.state)
        off_row same f z first =
            let signed : T (finding_signed S.scheme (CalledOff f)) = subst (λ h. T (finding_signed S.scheme h)) z (and_yes (finding_signed S.scheme r.finding) _ (sound_signed S.scheme (Paper.Notice r) row.sound)).0 in
            wish_origin S L w I p k e here f (ap about (sym z) ∙ same) (and_yes (offer_signed S.scheme f.offer) _ signed).1 (subst FindingSized z row.sized.finding) (subst (FindingBacked S w) z row.backed.0) first

        by_state : about r.finding ≡ e.offer → (f : Finding) → r.finding ≡ f → (s : State) → e.state ≡ s → T (past s) → T (ended s) ⊎ T (ended (step_in e s (Paper.Notice r)).0.state)
        by_state same f z (AskedOff y t') q t = inr (heed_ends e.offer.terms r r.finding)
        by_state same (CalledOff f) z (AskedStands x t') q t = absurd (subst (λ v. T (wished v)) q (off_row same f z (in_state g q).0))
        by_state same (Standing a) z (AskedStands x t') q t = inr (said_ends e.offer.terms r r.finding a z)
        by_state same f z (Asked x t') q t = inr (heed_ends e.offer.terms r r.finding)
        by_state same f z (Bound c) q t = inl tt
        by_state same f z (Free h) q t = inl tt
        by_state same f z s q t = absurd t

        go : (about r.finding ≡ e.offer) ⊎ Collision S (offer_bytes (about r.finding) ∷ own_strings S e) → End r
        go (inr b) = inr (inr b)
        go (inl same) = last (by_state same r.finding refl e.state refl pa)
          where
            last : T (ended e.state) ⊎ T (ended (step_in e e.state (Paper.Notice r)).0.state) → End r
            last (inl t) = inl t
            last (inr t) = inr (inl (subst (λ d. T (ended d.0.state)) (sym (comes same)) t))

  -- ---- the notary that has room, or a row already, answers by its book
  module _ (v : World) (n : ℕ) (k : Bytes) (f : Finding) (key : id_of S (about f) ≡ k) (named : (about f).notary ≡ n) (ok : SignOk S (Party.Notary n)) where
    abbrev pub Replied : Result Decision ℕ → Type 0
    Replied d = (r : Notice) × (answers S d ≡ Some (Paper.Notice r)) × ((after_decision S v n d).books n k ≡ Some r)

    new_signed : (f : Finding) → (about f).notary ≡ n → T (notice_signed S.scheme (new_notice S.scheme (S.sign (Party.Notary n)) (v.clocks n) f))
    unfolding notice_signed new_notice notice_head
    new_signed f q =
        let m : Bytes = notice_head (record { finding = f; stamp = notary.stamped (about f).terms (v.clocks n); signature = replicate 64 0 }) in
        subst (λ z. T (S.scheme.accepts (Party.Notary z) m (S.sign (Party.Notary n) m))) (sym (stamped_by (about f).terms (v.clocks n) (about f).notary n (names_self (about f).terms (about f).notary n q))) (ok m)

    about_new : (f : Finding) → about (new_notice S.scheme (S.sign (Party.Notary n)) (v.clocks n) f).finding ≡ about f
    unfolding new_notice
    about_new f = refl

    wrote : (q : ℕ) (f' : Finding) → f' ≡ f → Replied (notary.writes S.scheme (S.sign (Party.Notary n)) q (new_notice S.scheme (S.sign (Party.Notary n)) (v.clocks n) f'))
    wrote q f' same = subst Replied (sym (passes (notice_signed S.scheme m) (Ok d) (Err 3) (new_signed f' (ap (λ z. (about z).notary) same ∙ named)))) (m, refl, there)
      where
        m : Notice
        m = new_notice S.scheme (S.sign (Party.Notary n)) (v.clocks n) f'

        d : Decision
        d = record { write = Some m; to = q; answer = Paper.Notice m }

        at : id_of S (about m.finding) ≡ k
        at = ap (id_of S) (about_new f' ∙ ap about same) ∙ key

        there : write S n (Some m) v.books n k ≡ Some m
        there = subst (λ j. set n (id_of S (about m.finding)) m v.books n j ≡ Some m) at (set_here n (id_of S (about m.finding)) m v.books)

    pub replied : (room : Bool) (q : ℕ) (b : Option Notice) → v.books n k ≡ b → T (room || is_some b) → Replied (answer S.scheme (S.sign (Party.Notary n)) n (v.clocks n) b room q f)
    replied room q (Some b) h t = (b, refl, h)
    replied true q None h t = wrote q (found (about f).terms (v.clocks n) f) (found_is (about f).terms (v.clocks n) f)
    replied false q None h t = absurd t

  pub ends : (w : World) → Inv S w → (p : ℕ) (k : Bytes) (e : Exchange) → w.sides p k ≡ Some e → (n : ℕ) → e.offer.notary ≡ n → T (S.honest (Party.Notary n)) → SignOk S (Party.Side p) → SignOk S (Party.Notary n) → (T (ended e.state) → ⊥) → Ends S w p k e n
  ends w I p k e here n nm hon ok_side ok_notary going =
      (Q.paper, ap (λ d. sends S (effect_in d.1)) Q.is, λ v run room has. rest v (subst (λ d. Run S (after_outcome w p k d []) v) Q.is run) room has)
    where
      Q : Asking w I p k e here
      Q = asks_well w I p k e here ok_side e.state refl going

      w₁ : World
      w₁ = after_side w p k (with_state e Q.next) (to_notary e Q.paper) []

      A : Later w w₁ × Inv S w₁
      A = subst (λ d. Later w (after_outcome w p k d []) × Inv S (after_outcome w p k d [])) Q.is (step_inv S L w _ I (asks p k e (I.good p k e here).honest here))

      key : id_of S (about Q.finding) ≡ k
      key = ap (id_of S) Q.about ∙ (I.good p k e here).key

      rest : (v : World) → Run S w₁ v → (room : Bool) → T (room || is_some (v.books n k)) →
          (r : Notice) × (answers S (decides S v n room Q.paper) ≡ Some (Paper.Notice r)) × ((u : World) → Run S (after_decision S v n (decides S v n room Q.paper)) u → (c : Exchange) → u.sides p k ≡ Some c →
          T (ended c.state) ⊎ (T (ended (receive S.scheme c (Paper.Notice r)).0.state) ⊎ Collision S (offer_bytes (about r.finding) ∷ own_strings S c)))
      rest v run room has = (
        R.0,
        R.1,
        λ u run₂ c at.
            let D : Later v₂ u × Inv S u = run_inv S L v₂ u C.1 run₂ in
            let F = (later_on S L w₁ v₂ u (later_on S L w₁ v v₂ B.0 C.0) D.0).sides p k (with_state e Q.next) (set_here p k (with_state e Q.next) w.sides) in
            let its : F.0 ≡ c = same_Some _ _ (sym F.1 ∙ at) in
            let over : T (past c.state) = subst (λ z. T (past z.state)) its (F.2.past Q.past) in
            answered_well u D.1 p k c at R.0 n (later_row S v₂ u D.0 n k R.0 (C.1.rows n k R.0 R.2)) over,
      )
        where
          B : Later w₁ v × Inv S v
          B = run_inv S L w₁ v A.1 run

          v₂ : World
          v₂ = after_decision S v n (decides S v n room Q.paper)

          C : Later v v₂ × Inv S v₂
          C = step_inv S L v v₂ B.1 (asked n room Q.paper hon (Q.possible v B.0))

          by_book : decides S v n room Q.paper ≡ answer S.scheme (S.sign (Party.Notary n)) n (v.clocks n) (v.books n k) room Q.asker Q.finding
          by_book = Q.decided v n room nm ∙ ap (λ j. answer S.scheme (S.sign (Party.Notary n)) n (v.clocks n) (v.books n j) room Q.asker Q.finding) (I.good p k e here).key

          R : Replied v n k Q.finding key (ap (λ o. o.notary) Q.about ∙ nm) ok_notary (decides S v n room Q.paper)
          R = subst (Replied v n k Q.finding key (ap (λ o. o.notary) Q.about ∙ nm) ok_notary) (sym by_book) (replied v n k Q.finding key (ap (λ o. o.notary) Q.about ∙ nm) ok_notary room Q.asker (v.books n k) refl has)
