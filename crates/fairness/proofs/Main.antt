-- The promise of the whole. Assumes nothing.
use Rattle.std.proofs.Common.{◌≡◌, ℕ, ◌&&◌, T, eqb, ◌⊎◌, List, ◌++◌, Some, sym, refl, ap, ◌∙◌, subst, inl, inr, arith}
use Rattle.std.proofs.Math.Facts.{and_yes, yes_and, yes_eqb}
use Rattle.std.proofs.lemmas.Option.{same_Some}
use Rattle.papers.specs.declared.Party.{Party}
use Rattle.papers.specs.declared.Offer.{Offer}
use Rattle.papers.specs.declared.Acceptance.{Acceptance}
use Rattle.papers.specs.declared.Off.{Off}
use Rattle.papers.specs.declared.Finding.{Finding}
use Rattle.papers.specs.declared.Finding.TheVariants.{CalledOff, Standing}
use Rattle.papers.specs.declared.Notice.{Notice}
use Rattle.papers.specs.declared.Paper.{Paper}
use Rattle.papers.specs.Encoding.{Bytes, offer_bytes, about, OfferSized, AcceptanceSized, OffSized, NoticeSized, Sized}
use Rattle.signing.specs.Checks.{notary_of, offer_signed, acceptance_signed, off_signed, notice_signed, sound}
use Rattle.contract.specs.declared.Contract.{Contract}
use Rattle.contract.specs.Contract.{notice_of, offer_in, acceptance_in, same_offer, clash, secrets_count, opens, contract, cheated}
use Rattle.exchange.specs.declared.Role.{Role}
use Rattle.exchange.specs.declared.Role.TheVariants.{First, Second}
use Rattle.exchange.specs.declared.State.TheVariants.{Bound, Free}
use Rattle.exchange.specs.declared.Exchange.{Exchange}
use Rattle.exchange.specs.Steps.{ended}
use Rattle.fairness.specs.World.{Setting, Laws, In, entry, World, head, signature_of, id_of, Backed, OfferBacked, AcceptanceBacked, OffBacked, NoticeBacked, SecretPossible, AtHand, Run, stay, more}
use Rattle.fairness.specs.Promise.{strings, own_strings, Collision, CheatShown}
use Rattle.fairness.proofs.Basics.{alike, same→eq, eq→same, in_right}
use Rattle.fairness.proofs.Backing.{one_paper, about_sized, same_one, sound_signed, acceptance_offer, acceptance_by, notice_standing, notice_by}
use Rattle.fairness.proofs.Invariant.{wished, Follows, Later, later_self, Unsaid, Held, Noted, is_off, StateGood, SideOrigin, OriginBy, Inv, in_state, in_role}
use Rattle.fairness.proofs.Every.{step_inv}

-- a notice is by the notary that the offer names
pub notary_is : (n : Notice) → notary_of n ≡ (about n.finding).notary
notary_is n = grind arith

clash_same : (f g : Finding) → T (clash f g) → T (same_offer (about f) (about g))
clash_same f g t = grind arith

self_apart : (f : Finding) → T (clash f f) → ⊥
self_apart f t = grind arith

-- what freed a side clashes with a contract of its offer by Stands
frees_clash : (f : Finding) (a : Acceptance) → T (is_off f) → about f ≡ a.offer → T (clash f (Standing a))
frees_clash (CalledOff f) a t q = eq→same _ _ (ap offer_bytes q)
frees_clash (Standing b) a t q = absurd t

module _ (S : Setting) (L : Laws S) where
  follows_on : (a b c : Exchange) → Follows a b → Follows b c → Follows a c
  follows_on a b c f g = record {
    role = g.role ∙ f.role;
    offer = g.offer ∙ f.offer;
    secret = g.secret ∙ f.secret;
    wished = λ t. g.wished (f.wished t);
    past = λ t. g.past (f.past t);
    ended = λ t. g.ended (subst (λ z. T (ended z.state)) (sym (f.ended t)) t) ∙ f.ended t;
  }

  pub later_on : (w v u : World) → Later w v → Later v u → Later w u
  later_on w v u f g = record {
    sides = λ p k e h. let x = f.sides p k e h in let y = g.sides p k x.0 x.1 in (y.0, y.1, follows_on e x.0 y.0 x.2 y.2);
    books = λ n k r h. g.books n k r (f.books n k r h);
    log = λ t i. g.log t (f.log t i);
    out = λ x i. g.out x (f.out x i);
  }

  pub run_inv : (w v : World) → Inv S w → Run S w v → Later w v × Inv S v
  run_inv w v I stay = (later_self w, I)
  run_inv w v I (more {v = u} r s) =
      let a = run_inv w u I r in let b = step_inv S L u v a.1 s in (later_on w u v a.0 b.0, b.1)

  module _ (w : World) (I : Inv S w) where
    -- a signature of honest code comes from its own step
    from_log : (p : Party) (x : Paper) → Sized x → T (S.honest p) → T (S.scheme.accepts p (head x) (signature_of x)) → Backed S w p x → OriginBy S w p x
    from_log p x sized hon okay b =
        let o = I.origin (entry p x) (b hon okay) in subst (λ z. OriginBy S w p z) (sym (one_paper x o.paper sized o.sized o.message o.signature)) o.from

    held_at_hand : (c : Contract) → Held S w c → AtHand S w c
    held_at_hand (Contract.Secrets a x y) h = (h.0, h.1, λ p k e q r. h.2, λ p k e q r. h.3)
    held_at_hand (Contract.Stands s) h = h

    -- one digest: one offer, or a collision
    pub one_offer : (o o' : Offer) (xs : List Bytes) → OfferSized o → OfferSized o' → id_of S o ≡ id_of S o' → In (offer_bytes o) xs → In (offer_bytes o') xs → (o ≡ o') ⊎ Collision S xs
    one_offer o o' xs z z' q i j = go (alike (offer_bytes o) (offer_bytes o'))
      where
        go : (offer_bytes o ≡ offer_bytes o') ⊎ (offer_bytes o ≡ offer_bytes o' → ⊥) → (o ≡ o') ⊎ Collision S xs
        go (inl h) = inl (same_one o o' z z' (eq→same _ _ h))
        go (inr n) = inr (offer_bytes o, offer_bytes o', i, j, n, q)

    -- an unsaid secret: nobody else has it, but for a collision
    kept_secret : (p : ℕ) (k : Bytes) (e : Exchange) → w.sides p k ≡ Some e → Unsaid S w e.secret → (x : Bytes) (xs : List Bytes) → SecretPossible S w x → S.scheme.digest x ≡ S.scheme.digest e.secret → In x xs → In e.secret xs → Collision S xs
    kept_secret p k e here u x xs pos q i j = go (alike x e.secret)
      where
        go : (x ≡ e.secret) ⊎ (x ≡ e.secret → ⊥) → Collision S xs
        go (inl h) = absurd (u (subst (λ z. In z w.out) h (pos p k e here (sym h))))
        go (inr n) = (x, e.secret, i, j, n, q)

    -- a notice of an honest notary is in its book
    in_book : (n : Notice) (m : ℕ) → notary_of n ≡ m → T (S.honest (Party.Notary m)) → T (sound S.scheme (Paper.Notice n)) → NoticeSized n → NoticeBacked S w n → w.books m (id_of S (about n.finding)) ≡ Some n
    unfolding notice_signed
    in_book n m q hon okay sized backed =
        subst (λ j. w.books j (id_of S (about n.finding)) ≡ Some n) q (from_log (Party.Notary (notary_of n)) (Paper.Notice n) sized (subst (λ j. T (S.honest (Party.Notary j))) (sym q) hon) (notice_by S.scheme n okay) backed.1)

    pub never_both : (f s : Notice) → notary_of f ≡ notary_of s → T (S.honest (Party.Notary (notary_of f))) → T (sound S.scheme (Paper.Notice f)) → T (sound S.scheme (Paper.Notice s)) → T (clash f.finding s.finding) →
        NoticeSized f → NoticeSized s → NoticeBacked S w f → NoticeBacked S w s → ⊥
    never_both f s same hon okf oks t zf zs bf bs =
        let o : about f.finding ≡ about s.finding = same_one _ _ (about_sized f.finding zf.finding) (about_sized s.finding zs.finding) (clash_same f.finding s.finding t) in
        let a = in_book f (notary_of f) refl hon okf zf bf in
        let b = in_book s (notary_of f) (sym same) hon oks zs bs in
        let one : f ≡ s = same_Some _ _ (sym a ∙ subst (λ z. w.books (notary_of f) (id_of S z) ≡ Some s) (sym o) b) in
        self_apart f.finding (subst (λ z. T (clash f.finding z.finding)) (sym one) t)

    -- where the signatures in a contract come from
    second_from : (p : ℕ) (a : Acceptance) → T (S.honest (Party.Side p)) → a.offer.second ≡ p → T (sound S.scheme (Paper.Acceptance a)) → AcceptanceSized a → AcceptanceBacked S w a → SideOrigin S w p (Paper.Acceptance a)
    unfolding acceptance_signed
    second_from p a hon q okay sized backed =
        subst (λ z. SideOrigin S w z (Paper.Acceptance a)) q
        (from_log (Party.Side a.offer.second) (Paper.Acceptance a) sized (subst (λ z. T (S.honest (Party.Side z))) (sym q) hon) (acceptance_by S.scheme a okay) backed.1)

    first_from : (p : ℕ) (o : Offer) → T (S.honest (Party.Side p)) → o.first ≡ p → T (sound S.scheme (Paper.Offer o)) → OfferSized o → OfferBacked S w o → SideOrigin S w p (Paper.Offer o)
    unfolding offer_signed
    first_from p o hon q okay sized backed =
        subst (λ z. SideOrigin S w z (Paper.Offer o)) q
        (from_log (Party.Side o.first) (Paper.Offer o) sized (subst (λ z. T (S.honest (Party.Side z))) (sym q) hon) (sound_signed S.scheme (Paper.Offer o) okay) backed)

    contract_acceptance : (c : Contract) → T (contract S.scheme c) → T (sound S.scheme (Paper.Acceptance (acceptance_in c)))
    unfolding contract
    contract_acceptance (Contract.Secrets a x y) t = (and_yes (sound S.scheme (Paper.Acceptance a)) _ t).0
    contract_acceptance (Contract.Stands s) t = notice_standing S.scheme (notice_of s) s.acceptance refl t

    at_hand_acceptance : (c : Contract) → AtHand S w c → AcceptanceSized (acceptance_in c) × AcceptanceBacked S w (acceptance_in c)
    at_hand_acceptance (Contract.Secrets a x y) h = (h.0, h.1)
    at_hand_acceptance (Contract.Stands s) h = (h.0.finding, h.1.0)

    pub named : (p : ℕ) (c : Contract) → T (S.honest (Party.Side p)) → ((offer_in c).first ≡ p) ⊎ ((offer_in c).second ≡ p) → T (contract S.scheme c) → AtHand S w c → (e : Exchange) × (w.sides p (id_of S (offer_in c)) ≡ Some e) × (e.offer ≡ offer_in c)
    named p c hon (inl q) t h =
        let a = at_hand_acceptance c h in first_from p (offer_in c) hon q (acceptance_offer S.scheme (acceptance_in c) (contract_acceptance c t)) a.0.offer a.1.0
    named p c hon (inr q) t h =
        let a = at_hand_acceptance c h in let b = second_from p (acceptance_in c) hon q (contract_acceptance c t) a.0 a.1 in (b.0, b.1, b.4)

    -- a wish that is accepted for an honest first side: the side is past it
    pub wish_origin : (p : ℕ) (k : Bytes) (e : Exchange) → w.sides p k ≡ Some e → (f : Off) → f.offer ≡ e.offer → T (off_signed S.scheme f) → OffSized f → OffBacked S w f → e.role ≡ First → T (wished e.state)
    unfolding off_signed
    wish_origin p k e here f same okay sized backed first =
        let role = in_role (I.good p k e here) first in
        let its : f.offer.first ≡ p = ap (λ o. o.first) same ∙ role.0 in
        let a = from_log (Party.Side f.offer.first) (Paper.Off f) sized (subst (λ z. T (S.honest (Party.Side z))) (sym its) (I.good p k e here).honest) okay backed.1 in
        let at_k : w.sides p k ≡ Some a.0 = subst (λ z. w.sides p z ≡ Some a.0) (ap (id_of S) same ∙ (I.good p k e here).key) (subst (λ z. w.sides z (id_of S f.offer) ≡ Some a.0) its a.1) in
        subst (λ z. T (wished z.state)) (same_Some _ _ (sym at_k ∙ here)) a.2

    module _ (p : ℕ) (k : Bytes) (e : Exchange) (here : w.sides p k ≡ Some e) where
      pub bound : (c : Contract) → e.state ≡ Bound c → T (contract S.scheme c) × (offer_in c ≡ e.offer) × AtHand S w c
      bound c q = let h = in_state (I.good p k e here) q in (h.0, h.1, held_at_hand c h.2)

      -- a contract by secrets would have the secret that this side never said
      by_secrets_broken : (r : Role) → e.role ≡ r → Unsaid S w e.secret → (a : Acceptance) (x y : Bytes) → a.offer ≡ e.offer → T (contract S.scheme (Contract.Secrets a x y)) → AtHand S w (Contract.Secrets a x y) → Collision S (strings S (Contract.Secrets a x y) ++ own_strings S e)
      unfolding contract
      by_secrets_broken First r u a x y same t h =
          let role = in_role (I.good p k e here) r in
          let both : T (opens S.scheme x a.offer.lock && opens S.scheme y a.lock) = (and_yes (secrets_count a.offer.terms) _ (and_yes (sound S.scheme (Paper.Acceptance a)) _ t).1).1 in
          let lock : S.scheme.digest x ≡ S.scheme.digest e.secret = same→eq _ _ (and_yes (opens S.scheme x a.offer.lock) _ both).0 ∙ ap (λ o. o.lock) same ∙ role.1 in
          kept_secret p k e here u x (strings S (Contract.Secrets a x y) ++ own_strings S e) h.2 lock (inr (inl refl)) (inr (inr (inr (inr (inl refl)))))
      by_secrets_broken Second r u a x y same t h =
          let role = in_role (I.good p k e here) r in
          let both : T (opens S.scheme x a.offer.lock && opens S.scheme y a.lock) = (and_yes (secrets_count a.offer.terms) _ (and_yes (sound S.scheme (Paper.Acceptance a)) _ t).1).1 in
          let b = second_from p a (I.good p k e here).honest (ap (λ o. o.second) same ∙ role) (and_yes (sound S.scheme (Paper.Acceptance a)) _ t).0 h.0 h.1 in
          let at_k : w.sides p k ≡ Some b.0 = subst (λ z. w.sides p z ≡ Some b.0) (ap (id_of S) same ∙ (I.good p k e here).key) b.1 in
          let its : b.0 ≡ e = same_Some _ _ (sym at_k ∙ here) in
          let lock : S.scheme.digest y ≡ S.scheme.digest e.secret = same→eq _ _ (and_yes (opens S.scheme x a.offer.lock) _ both).1 ∙ sym b.3 ∙ ap (λ z. S.scheme.digest z.secret) its in
          kept_secret p k e here u y (strings S (Contract.Secrets a x y) ++ own_strings S e) h.3 lock (inr (inr (inl refl))) (inr (inr (inr (inr (inl refl)))))

      pub free : (f : Notice) → e.state ≡ Free f → (c : Contract) → T (contract S.scheme c) → id_of S (offer_in c) ≡ k → AtHand S w c → ((offer_in c ≡ e.offer) × CheatShown S w f c) ⊎ Collision S (strings S c ++ own_strings S e)
      unfolding cheated contract
      free f q c t i h = go c t h (one_offer (offer_in c) e.offer (strings S c ++ own_strings S e) (at_hand_acceptance c h).0.offer (I.good p k e here).sized (i ∙ sym (I.good p k e here).key) (first_string c) (in_right _ (strings S c) (own_strings S e) (inl refl)))
        where
          was : StateGood S w p e.offer e.role e.secret (Free f)
          was = in_state (I.good p k e here) q

          noted : Noted S w e.offer f
          noted = was.2

          first_string : (c : Contract) → In (offer_bytes (offer_in c)) (strings S c ++ own_strings S e)
          first_string (Contract.Secrets a x y) = inl refl
          first_string (Contract.Stands s) = inl refl

          go : (c : Contract) → T (contract S.scheme c) → AtHand S w c → (offer_in c ≡ e.offer) ⊎ Collision S (strings S c ++ own_strings S e) → ((offer_in c ≡ e.offer) × CheatShown S w f c) ⊎ Collision S (strings S c ++ own_strings S e)
          go c t h (inr b) = inr b
          go (Contract.Secrets a x y) t h (inl same) = inr (by_secrets_broken e.role refl was.0 a x y same t h)
          go (Contract.Stands s) t h (inl same) =
              inl (
                same,
                (
                  s,
                  refl,
                  yes_and (sound S.scheme (Paper.Notice f)) _ noted.sound (yes_and (sound S.scheme (Paper.Notice (notice_of s))) _ t
                      (yes_and (eqb (notary_of f) (notary_of (notice_of s))) _ (yes_eqb (notary_is f ∙ ap (λ o. o.notary) (noted.about ∙ sym same) ∙ sym (notary_is (notice_of s)))) (frees_clash f.finding s.acceptance was.1 (noted.about ∙ sym same)))),
                  noted.backed,
                ),
              )

      pub free_honest : (f : Notice) → e.state ≡ Free f → T (S.honest (Party.Notary e.offer.notary)) → (c : Contract) → T (contract S.scheme c) → id_of S (offer_in c) ≡ k → AtHand S w c → Collision S (strings S c ++ own_strings S e)
      unfolding contract
      free_honest f q hon c t i h = go c t h (free f q c t i h)
        where
          was : StateGood S w p e.offer e.role e.secret (Free f)
          was = in_state (I.good p k e here) q

          noted : Noted S w e.offer f
          noted = was.2

          go : (c : Contract) → T (contract S.scheme c) → AtHand S w c → ((offer_in c ≡ e.offer) × CheatShown S w f c) ⊎ Collision S (strings S c ++ own_strings S e) → Collision S (strings S c ++ own_strings S e)
          go c t h (inr b) = b
          go (Contract.Secrets a x y) t h (inl b) = cc b.1.1
          go (Contract.Stands s) t h (inl b) =
              let by : notary_of f ≡ e.offer.notary = notary_is f ∙ ap (λ o. o.notary) noted.about in
              absurd (never_both f (notice_of s) (by ∙ ap (λ o. o.notary) (sym b.0) ∙ sym (notary_is (notice_of s))) (subst (λ z. T (S.honest (Party.Notary z))) (sym by) hon) noted.sound t
              (frees_clash f.finding s.acceptance was.1 (noted.about ∙ sym b.0)) noted.sized h.0 noted.backed h.1)
