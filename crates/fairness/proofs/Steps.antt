-- What a side does in one exchange keeps what holds in every world. Assumes nothing.
use Rattle.std.proofs.Common.{◌≡◌, ℕ, ◌+◌, Bool, T, leb, List, [], ◌∷◌, ◌++◌, Some, None, Ok, sym, refl, ap, ◌∙◌, subst, inl, inr, arith}
use Rattle.std.specs.Bool.{passes as T_from_true}
use Rattle.std.specs.Str.{bytes_eq}
use Rattle.std.proofs.Math.Facts.{and_yes, yes_and}
use Rattle.std.proofs.lemmas.Bool.{cond_both}
use Rattle.papers.specs.declared.Party.{Party}
use Rattle.papers.specs.declared.Terms.{Terms}
use Rattle.papers.specs.declared.Acceptance.{Acceptance}
use Rattle.papers.specs.declared.Secret.{Secret}
use Rattle.papers.specs.declared.Off.{Off}
use Rattle.papers.specs.declared.Finding.{Finding}
use Rattle.papers.specs.declared.Finding.TheVariants.{CalledOff, Standing}
use Rattle.papers.specs.declared.Notice.{Notice}
use Rattle.papers.specs.declared.Question.{Question}
use Rattle.papers.specs.declared.Paper.{Paper}
use Rattle.papers.specs.Encoding.{Bytes, about, OffSized, QuestionSized, NoticeSized, AcceptanceSized}
use Rattle.signing.specs.Checks.{off_signed, question_signed, sound}
use Rattle.contract.specs.declared.Contract.{Contract}
use Rattle.contract.specs.Contract.{secrets_count, opens, contract}
use Rattle.exchange.specs.declared.Role.TheVariants.{First, Second}
use Rattle.exchange.specs.declared.State.{State}
use Rattle.exchange.specs.declared.State.TheVariants.{Offered, AskedOff, Said, AskedStands, Accepted, Asked, Bound, Free}
use Rattle.exchange.specs.declared.Exchange.{Exchange}
use Rattle.exchange.specs.declared.Effect.{Effect}
use Rattle.exchange.specs.declared.Effect.TheVariants.{Nothing, Full}
use Rattle.exchange.specs.Steps.{Outcome, with_state, refuse, go_on, me, to_side, to_notary, zeros, ended, by_secrets, answered, answered_said, second_said, first_said, keep, step_in, step, of_kept, second_opens, fits, secret_checked, fault, receive, new_wish, new_question, ask_by, ask_in, ask, tick_in, tick}
use Rattle.fairness.specs.World.{Setting, Laws, In, Entry, entry, World, set, id_of, NoticeBacked, SecretPossible, Possible, signed, told, secrets_in, after_side, after_outcome}
use Rattle.fairness.proofs.Basics.{same→eq, eq→same, set_here}
use Rattle.fairness.proofs.Backing.{about_sized, same_one, received, checked_means}
use Rattle.fairness.proofs.Invariant.{wished, past, Later, Unsaid, Kept, Own, Noted, is_off, StateGood, Good, Inv, later_acceptance, later_noted, later_kept, later_own, later_wish, later_question, later_state, in_state, in_role, mine, my_number}
use Rattle.fairness.proofs.Moves.{signed_one, put_unsaid, Move, side_moved}

module _ (S : Setting) (L : Laws S) (w : World) (p : ℕ) (k : Bytes) (e : Exchange) (here : w.sides p k ≡ Some e) (I : Inv S w) where
  g : Good S w p k e
  g = I.good p k e here

  abbrev Here : State → Type 0
  Here s = StateGood S w p e.offer e.role e.secret s

  abbrev Goal : List Bytes → Outcome → Type 0
  Goal heard d = Later w (after_outcome w p k d heard) × Inv S (after_outcome w p k d heard)

  moved : (s : State) (f : Effect) (heard : List Bytes) → Move S w p k e s f heard → Goal heard (go_on e s f)
  moved s f heard m = side_moved S w p k e s f heard here I m

  none_heard : (x : Bytes) → In x [] → SecretPossible S w x
  none_heard x i = absurd i

  one_heard : (x : Bytes) → SecretPossible S w x → (y : Bytes) → In y (x ∷ []) → SecretPossible S w y
  one_heard x h y (inl q) = subst (SecretPossible S w) (sym q) h
  one_heard x h y (inr i) = absurd i

  one_told : (x : Bytes) → In x (e.secret ∷ []) → x ≡ e.secret
  one_told x (inl q) = q
  one_told x (inr i) = absurd i

  possible_heard : (x : Paper) → Possible S w x → (y : Bytes) → In y (secrets_in x) → SecretPossible S w y
  possible_heard (Paper.Secret s) pos = one_heard s.secret pos.1
  possible_heard x pos = none_heard

  -- ---- nothing is done, or only reported
  stays : (f : Effect) (heard : List Bytes) → ((x : Bytes) → In x (told f) → ⊥) → ((t : Entry) → In t (signed p f) → ⊥) → ((x : Bytes) → In x heard → SecretPossible S w x) → Move S w p k e e.state f heard
  stays f heard quiet unsigned h = record {
    possible = h;
    own = λ x i. absurd (quiet x i);
    state = λ l. later_state S w _ l p e.offer e.role e.secret (put_unsaid S w p k e f heard e.secret (quiet e.secret) (λ i. h e.secret i p k e here refl)) e.state g.state;
    wish = λ t. t;
    past = λ t. t;
    stops = λ t. refl;
    news = λ t i. absurd (unsigned t i);
  }

  still_with : (n : ℕ) (heard : List Bytes) → ((x : Bytes) → In x heard → SecretPossible S w x) → Goal heard (refuse e n)
  still_with n heard h = moved e.state Nothing heard (stays Nothing heard (λ x i. i) (λ t i. i) h)

  -- whatever the number
  still : Goal [] (refuse e 10)
  still = still_with 10 [] none_heard

  reported : Goal [] (e, Ok Full)
  reported = moved e.state Full [] (stays Full [] (λ x i. i) (λ t i. i) none_heard)

  -- a test of the state, at the state that it is
  at : (P : State → Bool) {s : State} → e.state ≡ s → T (P e.state) → T (P s)
  at P q t = subst (λ z. T (P z)) q t

  -- ---- the first acceptance comes
  keep_goal : (a : Acceptance) → e.state ≡ Offered → fault S.scheme e (Paper.Acceptance a) ≡ None → Possible S w (Paper.Acceptance a) → Goal [] (keep e a)
  keep_goal a q none pos =
      moved (Said a) (to_side e.offer.second (Paper.Secret (record { offer = e.id; lock = zeros; secret = e.secret }))) [] (record {
        possible = none_heard;
        own = one_told;
        state = λ l. ((in_state g q).0, later_kept S w _ l e.offer a kept, inl refl);
        wish = λ t. absurd (at wished q t);
        past = λ t. absurd (at past q t);
        stops = λ t. absurd (at ended q t);
        news = λ t i. absurd i;
      })
    where
      kept : Kept S w e.offer a
      kept =
          let c = checked_means S.scheme e (Paper.Acceptance a) none in
          record { sound = c.0; offer = same_one a.offer e.offer pos.0.offer g.sized c.2; sized = pos.0; backed = pos.1 }

  -- ---- a secret comes
  opened : (x : Secret) → fault S.scheme e (Paper.Secret x) ≡ None → T (fits S.scheme e e.role x)
  unfolding secret_checked
  opened x none = grind arith

  -- with both secrets it is bound by what it keeps or has made
  both_goal : (a : Acceptance) (x y : Bytes) (f : Effect) (heard : List Bytes) {s : State} → e.state ≡ s → (T (ended s) → ⊥) → Kept S w e.offer a → S.scheme.digest x ≡ e.offer.lock → S.scheme.digest y ≡ a.lock →
      ((z : Bytes) → In z heard → SecretPossible S w z) → ((z : Bytes) → In z (told f) → z ≡ e.secret) → ((t : Entry) → In t (signed p f) → ⊥) → In x (told f ++ (heard ++ w.out)) → In y (told f ++ (heard ++ w.out)) → Goal heard (by_secrets e.offer.terms e (Contract.Secrets a x y) f)
  unfolding contract
  both_goal a x y f heard q going kept lock lock' possible own unsigned i j = go e.offer.terms refl
    where
      go : (m : Terms) → e.offer.terms ≡ m → Goal heard (by_secrets m e (Contract.Secrets a x y) f)
      go Terms.Plain z = moved (Bound (Contract.Secrets a x y)) f heard (record {
        possible = possible;
        own = own;
        state = λ l. (worth, kept.offer, (kept.sized, later_acceptance S w _ l a kept.backed, i, j));
        wish = λ t. tt;
        past = λ t. tt;
        stops = λ t. absurd (going (at ended q t));
        news = λ t h. absurd (unsigned t h);
      })
        where
          worth : T (contract S.scheme (Contract.Secrets a x y))
          worth = yes_and (sound S.scheme (Paper.Acceptance a)) _ kept.sound
              (yes_and (secrets_count a.offer.terms) _ (subst (λ m. T (secrets_count m)) (sym z ∙ ap (λ o. o.terms) (sym kept.offer)) tt)
              (yes_and (opens S.scheme x a.offer.lock) _ (eq→same _ _ (lock ∙ ap (λ o. o.lock) (sym kept.offer))) (eq→same _ _ lock')))

  -- the second's, to the first side, which keeps a
  second_goal : (a : Acceptance) (x : Secret) {s : State} → e.state ≡ s → (T (ended s) → ⊥) → fault S.scheme e (Paper.Secret x) ≡ None → SecretPossible S w x.secret → e.role ≡ First → Kept S w e.offer a → In e.secret w.out →
      (T (second_opens S.scheme s x) → T (of_kept S.scheme a x)) → Goal (x.secret ∷ []) (second_said e a x)
  second_goal a x q going none pos first kept out opening =
      both_goal a e.secret x.secret Nothing (x.secret ∷ []) q going kept (sym (in_role g first).1) (same→eq _ _ (and_yes (bytes_eq x.lock a.lock) _ fine).1) (one_heard x.secret pos) (λ y i. absurd i) (λ t i. i) (inr out) (inl refl)
    where
      fine : T (of_kept S.scheme a x)
      fine = opening (subst (λ z. T (second_opens S.scheme z x)) q (subst (λ r. T (fits S.scheme e r x)) first (opened x none)))

  -- the first's, to the second side, which has made a
  first_goal : (a : Acceptance) (x : Secret) → e.state ≡ Accepted a → fault S.scheme e (Paper.Secret x) ≡ None → SecretPossible S w x.secret → Goal (x.secret ∷ []) (first_said e a x)
  first_goal a x q none pos =
      let was = in_state g q in
      both_goal a x.secret e.secret (to_side e.offer.first (Paper.Secret (record { offer = e.id; lock = a.lock; secret = e.secret }))) (x.secret ∷ []) q (λ t. t) was.1 (same→eq _ _ (subst (λ r. T (fits S.scheme e r x)) was.0 (opened x none)))
      (sym was.3.lock) (one_heard x.secret pos) one_told (λ t i. i) (inr (inl refl)) (inl refl)

  -- ---- the notary's answer comes
  noted : (n : Notice) → fault S.scheme e (Paper.Notice n) ≡ None → Possible S w (Paper.Notice n) → Noted S w e.offer n
  noted n none pos =
      let c = checked_means S.scheme e (Paper.Notice n) none in
      record { sound = c.0; about = same_one (about n.finding) e.offer (about_sized n.finding pos.0.finding) g.sized c.2; sized = pos.0; backed = pos.1 }

  binds : (n : Notice) {s : State} → e.state ≡ s → (T (ended s) → ⊥) → Noted S w e.offer n → (a : Acceptance) → n.finding ≡ Standing a →
      Goal [] (go_on e (Bound (Contract.Stands (record { acceptance = a; stamp = n.stamp; signature = n.signature }))) Nothing)
  unfolding contract
  binds n q going on a z = moved (Bound c) Nothing [] (record {
    possible = none_heard;
    own = λ y i. absurd i;
    state = λ _. subst (λ (m : Notice). T (sound S.scheme (Paper.Notice m)) × (about m.finding ≡ e.offer) × (NoticeSized m × NoticeBacked S w m)) same (on.sound, on.about, (on.sized, on.backed));
    wish = λ t. tt;
    past = λ t. tt;
    stops = λ t. absurd (going (at ended q t));
    news = λ t i. absurd i;
  })
    where
      c : Contract
      c = Contract.Stands (record { acceptance = a; stamp = n.stamp; signature = n.signature })

      same : n ≡ record { finding = Standing a; stamp = n.stamp; signature = n.signature }
      same = λ i. record { finding = z i; stamp = n.stamp; signature = n.signature }

  heed_goal : (n : Notice) {s : State} → e.state ≡ s → (T (ended s) → ⊥) → fault S.scheme e (Paper.Notice n) ≡ None → Possible S w (Paper.Notice n) → Unsaid S w e.secret → (f : Finding) → n.finding ≡ f → (m : Terms) → Goal [] (answered m e n f)
  heed_goal n q going none pos unsaid (CalledOff f) z Terms.Plain = moved (Free n) Nothing [] (record {
    possible = none_heard;
    own = λ y i. absurd i;
    state = λ l. (unsaid, subst (λ h. T (is_off h)) (sym z) tt, later_noted S w _ l e.offer n (noted n none pos));
    wish = λ t. tt;
    past = λ t. tt;
    stops = λ t. absurd (going (at ended q t));
    news = λ t i. absurd i;
  })
  heed_goal n q going none pos unsaid (Standing a) z Terms.Plain = binds n q going (noted n none pos) a z

  heed_said_goal : (n : Notice) {s : State} → e.state ≡ s → (T (ended s) → ⊥) → fault S.scheme e (Paper.Notice n) ≡ None → Possible S w (Paper.Notice n) → (f : Finding) → n.finding ≡ f → (m : Terms) → Goal [] (answered_said m e n f)
  heed_said_goal n q going none pos (CalledOff f) z Terms.Plain = still
  heed_said_goal n q going none pos (Standing a) z Terms.Plain = binds n q going (noted n none pos) a z

  -- ---- by state and kind of message
  step_goal : (s : State) → e.state ≡ s → (x : Paper) → fault S.scheme e x ≡ None → Possible S w x → Goal (secrets_in x) (step_in e s x)
  step_goal Offered q (Paper.Acceptance x) none pos = keep_goal x q none pos
  step_goal (AskedOff y t) q (Paper.Notice x) none pos = heed_goal x q (λ t. t) none pos (in_state g q).1 x.finding refl e.offer.terms
  step_goal (AskedOff y t) q (Paper.Refusal x) none pos = reported
  step_goal (Said y) q (Paper.Secret x) none pos = let was = in_state g q in second_goal y x q (λ t. t) none pos.1 was.0 was.1 was.2 (λ z. z)
  step_goal (AskedStands y t) q (Paper.Secret x) none pos = let was = in_state g q in second_goal y.acceptance x q (λ t. t) none pos.1 was.0 was.1 was.2 (λ z. z)
  step_goal (AskedStands y t) q (Paper.Notice x) none pos = heed_said_goal x q (λ t. t) none pos x.finding refl e.offer.terms
  step_goal (AskedStands y t) q (Paper.Refusal x) none pos = reported
  step_goal (Accepted y) q (Paper.Secret x) none pos = first_goal y x q none pos.1
  step_goal (Asked y t) q (Paper.Notice x) none pos = heed_goal x q (λ t. t) none pos (in_state g q).2 x.finding refl e.offer.terms
  step_goal (Asked y t) q (Paper.Refusal x) none pos = reported
  step_goal (Bound y) q (Paper.Secret x) none pos = still_with 10 (x.secret ∷ []) (one_heard x.secret pos.1)
  step_goal (Free y) q (Paper.Secret x) none pos = still_with 10 (x.secret ∷ []) (one_heard x.secret pos.1)
  step_goal s q x none pos = still_with 10 (secrets_in x) (possible_heard x pos)

  pub receive_goal : (x : Paper) → Possible S w x → Goal (secrets_in x) (receive S.scheme e x)
  unfolding step
  receive_goal x pos = received S.scheme (Goal (secrets_in x)) e x (λ none. step_goal e.state refl x none pos) (λ n. still_with n (secrets_in x) (possible_heard x pos))

  -- ---- IT ASKS
  -- by the wish to call off
  wish_goal : (f : Off) (n : ℕ) {s : State} → e.state ≡ s → (T (ended s) → ⊥) → e.role ≡ First → Unsaid S w e.secret → f.offer ≡ e.offer → OffSized f → T (off_signed S.scheme f) → Goal [] (go_on e (AskedOff f n) (to_notary e (Paper.Off f)))
  wish_goal f n q going first unsaid same sized okay = moved (AskedOff f n) (to_notary e (Paper.Off f)) [] (record {
    possible = none_heard;
    own = λ y i. absurd i;
    state = λ _. (first, unsaid, record { offer = same; sized = sized; signed = okay; logged = inl refl });
    wish = λ t. tt;
    past = λ t. tt;
    stops = λ t. absurd (going (at ended q t));
    news = signed_one S _ p (Paper.Off f) sized (e', subst (λ j. set p k e' w.sides p j ≡ Some e') (sym (ap (id_of S) same ∙ g.key)) (set_here p k e' w.sides), tt);
  })
    where
      e' : Exchange
      e' = with_state e (AskedOff f n)

  -- by an acceptance
  question_goal : (s' : State) (x : Question) {s : State} → e.state ≡ s → (T (ended s) → ⊥) → (T (wished s) → ⊥) → T (past s') → QuestionSized x → ((v : World) → Later w v → In (entry (Party.Side p) (Paper.Question x)) v.log → (Unsaid S w e.secret → Unsaid S v e.secret) → StateGood S v p e.offer e.role e.secret s') →
      Goal [] (go_on e s' (to_notary e (Paper.Question x)))
  question_goal s' x q going unwished pa sized good = moved s' (to_notary e (Paper.Question x)) [] (record {
    possible = none_heard;
    own = λ y i. absurd i;
    state = λ l. good _ l (inl refl) (λ u. u);
    wish = λ t. absurd (unwished (at wished q t));
    past = λ t. pa;
    stops = λ t. absurd (going (at ended q t));
    news = signed_one S _ p (Paper.Question x) sized tt;
  })

  abbrev sign : Bytes → Bytes
  sign = S.sign (Party.Side p)

  -- the question is signed now
  new_goal : (next : Question → ℕ → State) (a : Acceptance) → AcceptanceSized a →
      let x : Question = new_question S.scheme sign (me e) a in (QuestionSized x → T (question_signed S.scheme x) → x.side ≡ p → Goal [] (go_on e (next x 0) (to_notary e (Paper.Question x)))) → Goal [] (ask_by S.scheme sign e next x)
  unfolding new_question
  new_goal next a sized ask_it =
      let x : Question = new_question S.scheme sign (me e) a in
      cond_both (question_signed S.scheme x) (go_on e (next x 0) (to_notary e (Paper.Question x))) (refuse e 3) (Goal [])
      (λ t. ask_it (record { side = my_number g; acceptance = sized; signature = L.sign_size (Party.Side p) _ }) (T_from_true _ t) (mine g)) (λ _. still_with 3 [] none_heard)

  stands_goal : (x : Question) (n : ℕ) {s : State} → e.state ≡ s → (T (ended s) → ⊥) → (T (wished s) → ⊥) → e.role ≡ First → Kept S w e.offer x.acceptance → In e.secret w.out → QuestionSized x → T (question_signed S.scheme x) → x.side ≡ p → Goal [] (go_on e (AskedStands x n) (to_notary e (Paper.Question x)))
  stands_goal x n q going unwished first kept out sized okay mine =
      question_goal (AskedStands x n) x q going unwished tt sized (λ v l i u. (first, later_kept S w v l e.offer x.acceptance kept, l.out e.secret out, record { side = mine; sized = sized; signed = okay; logged = i }))

  second_asks : (x : Question) (n : ℕ) {s : State} → e.state ≡ s → (T (ended s) → ⊥) → (T (wished s) → ⊥) → e.role ≡ Second → Kept S w e.offer x.acceptance → Unsaid S w e.secret → Own S w p e.secret x.acceptance → QuestionSized x → T (question_signed S.scheme x) → x.side ≡ p → Goal [] (go_on e (Asked x n) (to_notary e (Paper.Question x)))
  second_asks x n q going unwished second kept unsaid own sized okay mine =
      question_goal (Asked x n) x q going unwished tt sized (λ v l i u. (second, later_kept S w v l e.offer x.acceptance kept, u unsaid, later_own S w v l p e.secret x.acceptance own, record { side = mine; sized = sized; signed = okay; logged = i }))

  ask_goal_in : (s : State) → e.state ≡ s → Goal [] (ask_in S.scheme sign e s)
  unfolding new_wish new_question
  ask_goal_in Offered q =
      let was = in_state g q in
      let f : Off = new_wish S.scheme sign e.offer in
      cond_both (off_signed S.scheme f) (go_on e (AskedOff f 0) (to_notary e (Paper.Off f))) (refuse e 3) (Goal [])
      (λ t. wish_goal f 0 q (λ z. z) was.0 was.1 refl (record { offer = g.sized; signature = L.sign_size (Party.Side p) _ }) (T_from_true _ t)) (λ _. still_with 3 [] none_heard)
  ask_goal_in (AskedOff f t) q =
      let was = in_state g q in
      wish_goal f 0 q (λ z. z) was.0 was.1 was.2.offer was.2.sized was.2.signed
  ask_goal_in (Said a) q =
      let was = in_state g q in
      new_goal AskedStands a was.1.sized (stands_goal (new_question S.scheme sign (me e) a) 0 q (λ z. z) (λ z. z) was.0 was.1 was.2)
  ask_goal_in (AskedStands x t) q =
      let was = in_state g q in
      stands_goal x 0 q (λ z. z) (λ z. z) was.0 was.1 was.2 was.3.sized was.3.signed was.3.side
  ask_goal_in (Accepted a) q =
      let was = in_state g q in
      new_goal Asked a was.1.sized (second_asks (new_question S.scheme sign (me e) a) 0 q (λ z. z) (λ z. z) was.0 was.1 was.2 was.3)
  ask_goal_in (Asked x t) q =
      let was = in_state g q in
      second_asks x 0 q (λ z. z) (λ z. z) was.0 was.1 was.2 was.3 was.4.sized was.4.signed was.4.side
  ask_goal_in s q = still

  pub ask_goal : Goal [] (ask S.scheme sign e)
  unfolding ask
  ask_goal = ask_goal_in e.state refl

  -- ---- A TICK
  abbrev TickGoal : Exchange × Effect → Type 0
  TickGoal d = Later w (after_side w p k d.0 d.1 []) × Inv S (after_side w p k d.0 d.1 [])

  -- only the count of ticks is new
  counts : (s' : State) {s : State} → e.state ≡ s → (T (ended s) → ⊥) → (T (wished s) → T (wished s')) → T (past s') → (Here s → (v : World) → Later w v → (Unsaid S w e.secret → Unsaid S v e.secret) → StateGood S v p e.offer e.role e.secret s') → TickGoal (with_state e s', Nothing)
  counts s' q going wi pa good = moved s' Nothing [] (record {
    possible = none_heard;
    own = λ y i. absurd i;
    state = λ l. good (in_state g q) _ l (λ u. u);
    wish = λ t. wi (at wished q t);
    past = λ t. pa;
    stops = λ t. absurd (going (at ended q t));
    news = λ t i. absurd i;
  })

  tick_goal_in : (s : State) → e.state ≡ s → TickGoal (tick_in e s)
  tick_goal_in (AskedOff f t) q =
      cond_both (leb 63 t) (with_state e (AskedOff f 0), to_notary e (Paper.Off f)) (with_state e (AskedOff f (t + 1)), Nothing) TickGoal (λ _. ask_goal_in (AskedOff f t) q)
      (λ _. counts (AskedOff f (t + 1)) q (λ z. z) (λ z. z) tt (λ h v l u. (h.0, u h.1, later_wish S w v l p e.offer f h.2)))
  tick_goal_in (AskedStands x t) q =
      cond_both (leb 63 t) (with_state e (AskedStands x 0), to_notary e (Paper.Question x)) (with_state e (AskedStands x (t + 1)), Nothing) TickGoal (λ _. ask_goal_in (AskedStands x t) q)
      (λ _. counts (AskedStands x (t + 1)) q (λ z. z) (λ z. z) tt (λ h v l u. (h.0, later_kept S w v l e.offer x.acceptance h.1, l.out e.secret h.2, later_question S w v l p x h.3)))
  tick_goal_in (Asked x t) q =
      cond_both (leb 63 t) (with_state e (Asked x 0), to_notary e (Paper.Question x)) (with_state e (Asked x (t + 1)), Nothing) TickGoal (λ _. ask_goal_in (Asked x t) q)
      (λ _. counts (Asked x (t + 1)) q (λ z. z) (λ z. z) tt (λ h v l u. (h.0, later_kept S w v l e.offer x.acceptance h.1, u h.2, later_own S w v l p e.secret x.acceptance h.3, later_question S w v l p x h.4)))
  tick_goal_in s q = still

  pub tick_goal : TickGoal (tick e)
  unfolding tick
  tick_goal = tick_goal_in e.state refl
