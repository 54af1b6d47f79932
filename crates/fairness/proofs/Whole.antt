-- All parts of the promise. Assumes nothing.
use Rattle.std.proofs.Common.{◌≡◌, ℕ, Bool, true, false, cond, T, ◌⊎◌, Some, None, Option, sym, refl, ap, ◌∙◌, subst, inl, inr, arith}
use Rattle.std.specs.Str.{bytes_eq}
use Rattle.std.proofs.Math.Facts.{yes_and, yes_eqb}
use Rattle.std.proofs.lemmas.Slice.Eq.{bytes_eq-Decides}
use Rattle.papers.specs.declared.Party.{Party}
use Rattle.papers.specs.declared.Terms.{Terms}
use Rattle.papers.specs.declared.Offer.{Offer}
use Rattle.papers.specs.declared.Notice.{Notice}
use Rattle.papers.specs.declared.Acceptance.{Acceptance}
use Rattle.papers.specs.declared.Secret.{Secret}
use Rattle.papers.specs.declared.Paper.{Paper}
use Rattle.papers.specs.Encoding.{Bytes, offer_bytes}
use Rattle.contract.specs.declared.Contract.{Contract}
use Rattle.exchange.specs.declared.Role.{Role}
use Rattle.exchange.specs.declared.Role.TheVariants.{First, Second}
use Rattle.exchange.specs.declared.State.TheVariants.{Offered, Said, Accepted, Bound}
use Rattle.exchange.specs.declared.Exchange.{Exchange}
use Rattle.exchange.specs.declared.Effect.{Effect}
use Rattle.exchange.specs.declared.Effect.TheVariants.{Nothing}
use Rattle.exchange.specs.Steps.{with_state, go_on, me_as, to_side, zeros, ended, by_secrets, step_in, step, other_side's, fits, secret_checked, fault, receive}
use Rattle.notary.specs.Decision as notary
use Rattle.notary.specs.Decision.{notice_in, refused, answer_to, decide}
use Rattle.fairness.specs.World.{Setting, Laws, World, start, id_of, offer_asked, book_row, decides, Run}
use Rattle.fairness.specs.Promise.{answers, Whole, Main}
use Rattle.fairness.proofs.Basics.{eq→same}
use Rattle.fairness.proofs.Invariant.{Later, StateGood, Inv, in_state, in_role}
use Rattle.fairness.proofs.Every.{row_back, start_inv}
use Rattle.fairness.proofs.Main.{run_inv, never_both, named, bound, free, free_honest}
use Rattle.fairness.proofs.Ending.{heard, checks, ends}
use Rattle.fairness.proofs.Sent.{sent_on}

by_plain : (m : Terms) (e : Exchange) (c : Contract) (f : Effect) → by_secrets m e c f ≡ go_on e (Bound c) f
by_plain Terms.Plain e c f = refl

module _ (S : Setting) (L : Laws S) where
  -- a secret that names this exchange, comes from the other side, and opens what it should
  secret_passes : (e : Exchange) (s : Secret) (r : Role) → e.role ≡ r → s.offer ≡ e.id → T (other_side's r s) → T (fits S.scheme e r s) → fault S.scheme e (Paper.Secret s) ≡ None
  unfolding secret_checked
  secret_passes e s r q i o f =
      let to : T (other_side's e.role s) = subst (λ z. T (other_side's z s)) (sym q) o in
      let opens : T (fits S.scheme e e.role s) = subst (λ z. T (fits S.scheme e z s)) (sym q) f in
      grind (arith, bytes_eq-Decides)

  not_zeros : (l : Bytes) → (l ≡ zeros → ⊥) → T (cond (bytes_eq l zeros) false true)
  not_zeros l d = grind (arith, bytes_eq-Decides)

  module _ (w : World) (I : Inv S w) (p q : ℕ) (k : Bytes) (e d : Exchange) (a : Acceptance) (he : w.sides p k ≡ Some e) (hd : w.sides q k ≡ Some d) (se : e.state ≡ Offered) (sd : d.state ≡ Accepted a) (same : e.offer ≡ d.offer) (nz : S.scheme.digest d.secret ≡ zeros → ⊥) where
    ge : StateGood S w p e.offer e.role e.secret Offered
    ge = in_state (I.good p k e he) se

    gd : StateGood S w q d.offer d.role d.secret (Accepted a)
    gd = in_state (I.good q k d hd) sd

    its : a.offer ≡ e.offer
    its = gd.1.offer ∙ sym same

    abbrev first : Paper
    first = Paper.Secret (record { offer = k; lock = zeros; secret = e.secret })

    abbrev second : Paper
    second = Paper.Secret (record { offer = k; lock = a.lock; secret = d.secret })

    abbrev c : Contract
    c = Contract.Secrets a e.secret d.secret

    takes : receive S.scheme e (Paper.Acceptance a) ≡ go_on e (Said a) (to_side e.offer.second first)
    unfolding step
    takes =
        heard S L e (Paper.Acceptance a) (checks S L e (Paper.Acceptance a) gd.1.sound (yes_eqb (ap (λ o. o.first) its ∙ sym (ap (λ r. me_as r e.offer) ge.0))) (eq→same _ _ (ap offer_bytes its)))
        ∙ ap (λ s. step_in e s (Paper.Acceptance a)) se ∙ ap (λ j. go_on e (Said a) (to_side e.offer.second (Paper.Secret (record { offer = j; lock = zeros; secret = e.secret })))) (I.good p k e he).id

    opened : S.scheme.digest e.secret ≡ d.offer.lock
    opened = sym (in_role (I.good p k e he) ge.0).1 ∙ ap (λ o. o.lock) same

    binds_second : receive S.scheme d first ≡ go_on d (Bound c) (to_side d.offer.first second)
    unfolding step
    binds_second =
        heard S L d first (secret_passes d (record { offer = k; lock = zeros; secret = e.secret }) Second gd.0 (sym (I.good q k d hd).id) (eq→same zeros zeros refl) (eq→same _ _ opened))
        ∙ ap (λ s. step_in d s (Paper.Secret (record { offer = k; lock = zeros; secret = e.secret }))) sd
        ∙ by_plain d.offer.terms d (Contract.Secrets a e.secret d.secret) (to_side d.offer.first (Paper.Secret (record { offer = d.id; lock = a.lock; secret = d.secret })))
        ∙ ap (λ j. go_on d (Bound (Contract.Secrets a e.secret d.secret)) (to_side d.offer.first (Paper.Secret (record { offer = j; lock = a.lock; secret = d.secret })))) (I.good q k d hd).id

    binds_first : receive S.scheme (with_state e (Said a)) second ≡ go_on e (Bound c) Nothing
    unfolding step
    binds_first =
        heard S L (with_state e (Said a)) second (secret_passes (with_state e (Said a)) (record { offer = k; lock = a.lock; secret = d.secret }) First ge.0 (sym (I.good p k e he).id)
        (not_zeros a.lock (λ z. nz (sym gd.3.lock ∙ z))) (yes_and (bytes_eq a.lock a.lock) _ (eq→same a.lock a.lock refl) (eq→same _ _ (sym gd.3.lock))))
        ∙ by_plain e.offer.terms (with_state e (Said a)) (Contract.Secrets a e.secret d.secret) Nothing

  -- an answer that is not refused is the row, where there is one
  same_answer : (v : World) (n : ℕ) (k : Bytes) (r : Notice) → v.books n k ≡ Some r → (room : Bool) (q : Paper) (o : Offer) (x : Paper) → offer_asked q ≡ Some o → id_of S o ≡ k → answers S (decides S v n room q) ≡ Some x → x ≡ Paper.Notice r
  unfolding decide
  same_answer v n k r there room q o x asked key said = by_fault (notary.fault S.scheme n q) said
    where
      row : notice_in (book_row S v n (offer_asked q)) ≡ Some r
      row = ap (λ z. notice_in (book_row S v n z)) asked ∙ row_back (v.books n (id_of S o)) ∙ ap (v.books n) key ∙ there

      to : (q : Paper) → offer_asked q ≡ Some o → answers S (answer_to S.scheme (S.sign (Party.Notary n)) n (v.clocks n) (Some r) room q) ≡ Some x → x ≡ Paper.Notice r
      to (Paper.Off y) a h = cc
      to (Paper.Question y) a h = cc
      to q a h = cc

      by_fault : (z : Option ℕ) → answers S (refused S.scheme (S.sign (Party.Notary n)) z (answer_to S.scheme (S.sign (Party.Notary n)) n (v.clocks n) (notice_in (book_row S v n (offer_asked q))) room q)) ≡ Some x → x ≡ Paper.Notice r
      by_fault None h = to q asked (subst (λ z. answers S (answer_to S.scheme (S.sign (Party.Notary n)) n (v.clocks n) z room q) ≡ Some x) row h)
      by_fault (Some j) h = cc

  pub whole : (w : World) → Inv S w → Whole S w
  whole w I = record {
    each = λ p k e here. record {
      bound = bound S L w I p k e here;
      free = λ f q v run c t i h.
          let B : Later w v × Inv S v = run_inv S L w v I run in
          drop_same (free S L v B.1 p k e (still p k e here (subst (λ z. T (ended z)) (sym q) tt) v run) f q c t i h);
      free_honest = λ f q hon v run c t i h.
          let B : Later w v × Inv S v = run_inv S L w v I run in
          free_honest S L v B.1 p k e (still p k e here (subst (λ z. T (ended z)) (sym q) tt) v run) f q hon c t i h;
      stable = λ t v run. still p k e here t v run;
      ends = ends S L w I p k e here;
    };
    never_both = never_both S L w I;
    steady = λ n k r h v run. let there = (run_inv S L w v I run).0.books n k r h in (there, λ room q o x asked key said. same_answer v n k r there room q o x asked key said);
    named = named S L w I;
    both = λ p q k e d c f he hd be fd hon.
        let b = bound S L w I p k e he c be in
        free_honest S L w I q k d hd f fd hon c b.0 (ap (id_of S) b.1 ∙ (I.good p k e he).key) b.2;
    meet = λ p q k e d a he hd se sd same nz. (takes w I p q k e d a he hd se sd same nz, binds_second w I p q k e d a he hd se sd same nz, binds_first w I p q k e d a he hd se sd same nz);
    sent_on = sent_on S L w I;
  }
    where
      still : (p : ℕ) (k : Bytes) (e : Exchange) → w.sides p k ≡ Some e → T (ended e.state) → (v : World) → Run S w v → v.sides p k ≡ Some e
      still p k e here t v run =
          let F = (run_inv S L w v I run).0.sides p k e here in subst (λ z. v.sides p k ≡ Some z) (F.2.ended t) F.1

      drop_same : {A B C : Type 0} → (A × B) ⊎ C → B ⊎ C
      drop_same (inl x) = inl x.1
      drop_same (inr y) = inr y

pub main : Main
main S L w r = whole S L w (run_inv S L start w (start_inv S L) r).1
