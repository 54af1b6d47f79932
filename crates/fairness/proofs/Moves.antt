-- Each kind of change of the world keeps what holds in every world. Assumes nothing.
use Rattle.std.proofs.Common.{◌≡◌, ℕ, T, ◌⊎◌, List, [], ◌∷◌, ◌++◌, Some, None, sym, refl, ap, ◌∙◌, subst, inl, inr}
use Rattle.std.proofs.lemmas.Option.{none-some, same_Some}
use Rattle.papers.specs.declared.Party.{Party}
use Rattle.papers.specs.declared.Notice.{Notice}
use Rattle.papers.specs.declared.Paper.{Paper}
use Rattle.papers.specs.Encoding.{Bytes, Sized}
use Rattle.exchange.specs.declared.State.{State}
use Rattle.exchange.specs.declared.Exchange.{Exchange}
use Rattle.exchange.specs.declared.Effect.{Effect}
use Rattle.exchange.specs.Steps.{with_state, ended}
use Rattle.fairness.specs.World.{Setting, In, Entry, entry, World, set, SecretPossible, Fresh, signed, told, after_side, after_clock}
use Rattle.fairness.proofs.Basics.{in_right, in_either, set_here, set_cases, set_all, set_keeps}
use Rattle.fairness.proofs.Invariant.{wished, past, Follows, follows_self, Later, Unsaid, StateGood, Good, SideOrigin, Origin, RowGood, Inv, later_backed, later_good, later_origin, later_row}

module _ (S : Setting) where
  -- what a side signs comes from its own step
  pub signed_one : (v : World) (p : ℕ) (x : Paper) → Sized x → SideOrigin S v p x → (t : Entry) → In t (entry (Party.Side p) x ∷ []) → Origin S v t
  signed_one v p x sized from t (inl q) = subst (Origin S v) (sym q) (record { paper = x; sized = sized; message = refl; signature = refl; from = from })
  signed_one v p x sized from t (inr i) = absurd i

  -- the side p has the exchange e at k from now on, in the place of one that it follows, or of none
  module _ (w : World) (p : ℕ) (k : Bytes) (e : Exchange) (f : Effect) (heard : List Bytes) where
    put_later : ((c : Exchange) → w.sides p k ≡ Some c → Follows c e) → Later w (after_side w p k e f heard)
    put_later follows = record {
      sides = λ q j c h. go q j c h (set_keeps p k e w.sides q j c h);
      books = λ n j r h. h;
      log = λ t i. in_right t (signed p f) w.log i;
      out = λ x i. in_right x (told f) (heard ++ w.out) (in_right x heard w.out i);
    }
      where
        go : (q : ℕ) (j : Bytes) (c : Exchange) → w.sides q j ≡ Some c → ((q ≡ p) × (j ≡ k)) ⊎ (set p k e w.sides q j ≡ Some c) →
            (c' : Exchange) × (set p k e w.sides q j ≡ Some c') × Follows c c'
        go q j c h (inl m) =
            let was : w.sides p k ≡ Some c = cc in
            let now : set p k e w.sides q j ≡ Some e = cc (set_here p k e w.sides) in (e, now, follows c was)
        go q j c h (inr m) = (c, m, follows_self c)

    -- a secret that it does not tell, and that was heard only if it was out
    pub put_unsaid : (x : Bytes) → (In x (told f) → ⊥) → (In x heard → In x w.out) → Unsaid S w x → Unsaid S (after_side w p k e f heard) x
    put_unsaid x quiet known u i = go (in_either x (told f) (heard ++ w.out) i)
      where
        old : In x heard ⊎ In x w.out → ⊥
        old (inl j) = u (known j)
        old (inr j) = u j

        go : In x (told f) ⊎ In x (heard ++ w.out) → ⊥
        go (inl j) = quiet j
        go (inr j) = old (in_either x heard w.out j)

    -- another exchange of the world w
    abbrev Other : ℕ → Bytes → Exchange → Type 0
    Other q j c = (w.sides q j ≡ Some c) × (q ≡ p → j ≡ k → ⊥)

    put_inv : Later w (after_side w p k e f heard) → Inv S w → Good S (after_side w p k e f heard) p k e → ((q : ℕ) (j : Bytes) (c : Exchange) → Other q j c → Unsaid S w c.secret → Unsaid S (after_side w p k e f heard) c.secret) →
        ((q : ℕ) (j : Bytes) (c : Exchange) → Other q j c → c.secret ≡ e.secret → ⊥) → ((t : Entry) → In t (signed p f) → Origin S (after_side w p k e f heard) t) → Inv S (after_side w p k e f heard)
    put_inv later I new unsaid apart news = record {
      good = set_all p k e w.sides (Good S (after_side w p k e f heard)) new (λ q j c h n. later_good S w _ later q j c (unsaid q j c (h, n)) (I.good q j c h));
      alone = λ q q' j j' c c' h h' x. alone q q' j j' c c' x (set_cases p k e w.sides q j c h) (set_cases p k e w.sides q' j' c' h');
      origin = λ t i. origin t (in_either t (signed p f) w.log i);
      rows = λ n j r h. later_row S w v later n j r (I.rows n j r h);
    }
      where
        v : World
        v = after_side w p k e f heard

        alone : (q q' : ℕ) (j j' : Bytes) (c c' : Exchange) → c.secret ≡ c'.secret → ((q ≡ p) × (j ≡ k) × (c ≡ e)) ⊎ Other q j c → ((q' ≡ p) × (j' ≡ k) × (c' ≡ e)) ⊎ Other q' j' c' → (q ≡ q') × (j ≡ j')
        alone q q' j j' c c' h (inl x) (inl y) = (x.0 ∙ sym y.0, x.1 ∙ sym y.1)
        alone q q' j j' c c' h (inl x) (inr y) = absurd (apart q' j' c' y (sym h ∙ ap (λ z. z.secret) x.2))
        alone q q' j j' c c' h (inr x) (inl y) = absurd (apart q j c x (h ∙ ap (λ z. z.secret) y.2))
        alone q q' j j' c c' h (inr x) (inr y) = I.alone q q' j j' c c' x.0 y.0 h

        origin : (t : Entry) → In t (signed p f) ⊎ In t w.log → Origin S v t
        origin t (inl i) = news t i
        origin t (inr i) = later_origin S w v later t (I.origin t i)

  -- an honest side goes on to the state s in its exchange e, with the effect f, after a message with the secrets heard
  pub record Move (w : World) (p : ℕ) (k : Bytes) (e : Exchange) (s : State) (f : Effect) (heard : List Bytes) : Type 0 where
    pub possible : (x : Bytes) → In x heard → SecretPossible S w x
    pub own : (x : Bytes) → In x (told f) → x ≡ e.secret
    pub state : Later w (after_side w p k (with_state e s) f heard) → StateGood S (after_side w p k (with_state e s) f heard) p e.offer e.role e.secret s
    pub wish : T (wished e.state) → T (wished s)
    pub past : T (past e.state) → T (past s)
    pub stops : T (ended e.state) → s ≡ e.state
    pub news : (t : Entry) → In t (signed p f) → Origin S (after_side w p k (with_state e s) f heard) t

  pub side_moved : (w : World) (p : ℕ) (k : Bytes) (e : Exchange) (s : State) (f : Effect) (heard : List Bytes) → w.sides p k ≡ Some e → Inv S w → Move w p k e s f heard →
      Later w (after_side w p k (with_state e s) f heard) × Inv S (after_side w p k (with_state e s) f heard)
  side_moved w p k e s f heard here I m = (later, put_inv w p k e' f heard later I new unsaid apart m.news)
    where
      e' : Exchange
      e' = with_state e s

      follows : Follows e e'
      follows = record { role = refl; offer = refl; secret = refl; wished = m.wish; past = m.past; ended = λ t. λ i. record { role = e.role; id = e.id; offer = e.offer; secret = e.secret; state = m.stops t i } }

      later : Later w (after_side w p k e' f heard)
      later = put_later w p k e' f heard (λ c h. subst (λ z. Follows z e') (same_Some _ _ (sym here ∙ h)) follows)

      old : Good S w p k e
      old = I.good p k e here

      new : Good S (after_side w p k e' f heard) p k e'
      new = record {
        honest = old.honest;
        key = old.key;
        id = old.id;
        sound = old.sound;
        sized = old.sized;
        backed = later_backed S w _ later (Party.Side e.offer.first) (Paper.Offer e.offer) old.backed;
        secret = old.secret;
        role = old.role;
        state = m.state later;
      }

      apart : (q : ℕ) (j : Bytes) (c : Exchange) → (w.sides q j ≡ Some c) × (q ≡ p → j ≡ k → ⊥) → c.secret ≡ e.secret → ⊥
      apart q j c x z = let a = I.alone q p j k c e x.0 here z in x.1 a.0 a.1

      -- the other exchanges' secrets stay unsaid
      unsaid : (q : ℕ) (j : Bytes) (c : Exchange) → (w.sides q j ≡ Some c) × (q ≡ p → j ≡ k → ⊥) → Unsaid S w c.secret → Unsaid S (after_side w p k e' f heard) c.secret
      unsaid q j c x = put_unsaid w p k e' f heard c.secret (λ i. apart q j c x (m.own c.secret i)) (λ i. m.possible c.secret i q j c x.0 refl)

  -- a new exchange, of which nothing is told
  pub joined : (w : World) (p : ℕ) (k : Bytes) (e : Exchange) (f : Effect) → ((x : Bytes) → In x (told f) → ⊥) → w.sides p k ≡ None → Fresh S w e.secret → Inv S w → Good S (after_side w p k e f []) p k e →
      ((t : Entry) → In t (signed p f) → Origin S (after_side w p k e f []) t) → Later w (after_side w p k e f []) × Inv S (after_side w p k e f [])
  joined w p k e f quiet free fresh I new news =
      (later, put_inv w p k e f [] later I new (λ q j c x. put_unsaid w p k e f [] c.secret (quiet c.secret) (λ i. absurd i)) (λ q j c x. fresh.0 q j c x.0) news)
    where
      later : Later w (after_side w p k e f [])
      later = put_later w p k e f [] (λ c h. absurd (none-some _ (sym free ∙ h)))

  -- no side has moved; what is new in the log and in the books is as it should be
  module _ (w v : World) (l : Later w v) (sides : v.sides ≡ w.sides) (out : v.out ≡ w.out) where
    pub still_inv : Inv S w → ((t : Entry) → In t v.log → In t w.log ⊎ Origin S v t) → ((n : ℕ) (j : Bytes) (r : Notice) → v.books n j ≡ Some r → (w.books n j ≡ Some r) ⊎ RowGood S v n j r) → Inv S v
    still_inv I from row = record {
      good = λ q j c h. later_good S w v l q j c (λ u i. u (subst (λ z. In c.secret z) out i)) (I.good q j c (was q j c h));
      alone = λ p q k j e d h g s. I.alone p q k j e d (was p k e h) (was q j d g) s;
      origin = λ t i. origin t (from t i);
      rows = λ n j r h. rows n j r (row n j r h);
    }
      where
        was : (q : ℕ) (j : Bytes) (c : Exchange) → v.sides q j ≡ Some c → w.sides q j ≡ Some c
        was q j c h = subst (λ z. z q j ≡ Some c) sides h

        origin : (t : Entry) → In t w.log ⊎ Origin S v t → Origin S v t
        origin t (inl i) = later_origin S w v l t (I.origin t i)
        origin t (inr o) = o

        rows : (n : ℕ) (j : Bytes) (r : Notice) → (w.books n j ≡ Some r) ⊎ RowGood S v n j r → RowGood S v n j r
        rows n j r (inl h) = later_row S w v l n j r (I.rows n j r h)
        rows n j r (inr g) = g

  -- a clock goes on
  pub clock_inv : (w : World) (n c : ℕ) → Inv S w → Later w (after_clock S w n c) × Inv S (after_clock S w n c)
  clock_inv w n c I = (later, still_inv w (after_clock S w n c) later refl refl I (λ t i. inl i) (λ m j r h. inl h))
    where
      later : Later w (after_clock S w n c)
      later = record { sides = λ q j d h. (d, h, follows_self d); books = λ m j b h. h; log = λ t i. i; out = λ x i. i }
