-- Places in a side's table: where an exchange is found, and what another state of it, or one more, does.
use Rattle.std.proofs.Common.{◌≡◌, ℕ, zero, suc, ◌+◌, ◌≤◌, true, false, cond, ◌⊎◌, [], ◌∷◌, ◌++◌, length, Some, None, Option, sym, refl, ap, ◌∙◌, inl, inr, arith}
use Rattle.std.specs.Ordering.{nat_cmp}
use Rattle.std.specs.Cmp.Lexicographic.{slice_cmp}
use Rattle.std.specs.BTreeMap.{BTreeMap, get, is_at, Updates}
use Rattle.std.proofs.lemmas.Map.Text.{is_eq-slice_cmp}
use Rattle.std.proofs.lemmas.Option.{gets}
use Rattle.side.specs.Places.{Kept, Found}
use Rattle.std.proofs.lemmas.Bool.{cases_Bool}
use Rattle.std.specs.Prelude.{slice_get}
use Rattle.std.specs.Str.{bytes_eq}
use Rattle.std.proofs.Math.ListN.{set}
use Rattle.std.proofs.lemmas.Slice.Eq.{bytes_eq-Decides}
use Rattle.std.proofs.lemmas.Grind.{common_steps}
use Rattle.papers.specs.Encoding.{Bytes}
use Rattle.exchange.specs.declared.Exchange.{Exchange}
use Rattle.exchange.specs.Steps.{ended}
use Rattle.side.specs.Table.{Exchanges, lookup, store, uses, open_count}

-- what is found stands somewhere
pub record Stands (es : Exchanges) (k : Bytes) (e : Exchange) : Type 0 where
  pub place : ℕ
  pub here : slice_get es place ≡ Some e
  pub named : e.id ≡ k

pub found_at : (es : Exchanges) (k : Bytes) (e : Exchange) → lookup es k ≡ Some e → Stands es k e
unfolding lookup
found_at [] k e h = cc
found_at (x ∷ es) k e h = elim (cases_Bool (bytes_eq x.id k)) [
  | inl q ↦ record { place = 0; here = grind arith; named = grind (arith, bytes_eq-Decides) }
  | inr q ↦ let r : Stands es k e = found_at es k e (grind arith) in record { place = suc r.place; here = r.here; named = r.named }
]

-- what stands somewhere is found, or another of its name
pub none_at : (es : Exchanges) (k : Bytes) (i : ℕ) (e : Exchange) → slice_get es i ≡ Some e → e.id ≡ k → lookup es k ≡ None → ⊥
unfolding lookup
none_at [] k i e h q n = cc
none_at (x ∷ es) k zero e h q n = grind (arith, bytes_eq-Decides)
none_at (x ∷ es) k (suc i) e h q n = grind (arith, bytes_eq-Decides, none_at es k i e)

-- another state of the one that stands here, if it is the only one of its name
pub stored_at : (es : Exchanges) (k : Bytes) (i : ℕ) (e d : Exchange) → slice_get es i ≡ Some e → e.id ≡ k → ((j : ℕ) (x : Exchange) → slice_get es j ≡ Some x → x.id ≡ k → j ≡ i) → set es i d ≡ store es k d
unfolding store
stored_at [] k i e d h q one = cc
stored_at (x ∷ es) k zero e d h q one = grind (arith, bytes_eq-Decides)
stored_at (x ∷ es) k (suc i) e d h q one = elim (cases_Bool (bytes_eq x.id k)) [
  | inl y ↦ let z : 0 ≡ suc i = one 0 x refl ((bytes_eq-Decides x.id k).0 y) in absurd (omega arith)
  | inr y ↦ let r : set es i d ≡ store es k d = stored_at es k i e d h q (λ j x' g p. let z : suc j ≡ suc i = one (suc j) x' g p in omega arith) in grind arith
]

-- a secret that was drawn, and its exchange
pub record Draws (es : Exchanges) (x : Bytes) : Type 0 where
  pub place : ℕ
  pub exchange : Exchange
  pub here : slice_get es place ≡ Some exchange
  pub drawn : exchange.secret ≡ x

pub drawn_at : (es : Exchanges) (x : Bytes) → uses es x ≡ true → Draws es x
unfolding uses
drawn_at [] x u = cc
drawn_at (y ∷ es) x u = elim (cases_Bool (bytes_eq y.secret x)) [
  | inl q ↦ record { place = 0; exchange = y; here = refl; drawn = grind (arith, bytes_eq-Decides) }
  | inr q ↦ let r : Draws es x = drawn_at es x (grind arith) in record { place = suc r.place; exchange = r.exchange; here = r.here; drawn = r.drawn }
]

pub undrawn_at : (es : Exchanges) (x : Bytes) (i : ℕ) (e : Exchange) → slice_get es i ≡ Some e → e.secret ≡ x → uses es x ≡ true
unfolding uses
undrawn_at [] x i e h q = cc
undrawn_at (y ∷ es) x zero e h q = grind (arith, bytes_eq-Decides)
undrawn_at (y ∷ es) x (suc i) e h q = grind (arith, bytes_eq-Decides, undrawn_at es x i e h q)

-- how many have not ended
running_of : Exchange → ℕ
running_of e = cond (ended e.state) 0 1

pub counted_store : (es : Exchanges) (i : ℕ) (e d : Exchange) → slice_get es i ≡ Some e → open_count (set es i d) + cond (ended e.state) 0 1 ≡ open_count es + cond (ended d.state) 0 1
unfolding open_count
counted_store [] i e d h = cc
counted_store (x ∷ es) zero e d h = grind arith
counted_store (x ∷ es) (suc i) e d h = grind (arith, counted_store es i e d h)

pub counted_push : (es : Exchanges) (e : Exchange) → open_count (es ++ e ∷ []) ≡ open_count es + cond (ended e.state) 0 1
unfolding open_count
counted_push [] e = grind arith
counted_push (x ∷ es) e = grind (arith, counted_push es e)

pub counted_all : (es : Exchanges) → open_count es ≤ length es
unfolding open_count
counted_all [] = grind arith
counted_all (x ∷ es) = grind (arith, counted_all es)

-- a name that differs is passed over
apart : (k q : Bytes) → (q ≡ k → ⊥) → is_at (slice_cmp nat_cmp k) q ≡ false
apart k q d = is_eq-slice_cmp k q ∙ grind (arith, bytes_eq-Decides)

-- what stands in a table with one more at its end
at_end : (es : Exchanges) (e : Exchange) (i : ℕ) (x : Exchange) → slice_get (es ++ e ∷ []) i ≡ Some x → (slice_get es i ≡ Some x) ⊎ ((i ≡ length es) × (x ≡ e))
at_end [] e zero x g = inr (refl, grind arith)
at_end [] e (suc i) x g = cc
at_end (y ∷ es) e zero x g = inl g
at_end (y ∷ es) e (suc i) x g = elim (at_end es e i x g) [ inl a ↦ inl a | inr b ↦ inr (grind arith, b.1) ]

-- ---- what is kept beside the exchanges
module _ {es : Exchanges} {places drawn : BTreeMap Bytes ℕ} {running : ℕ} (kept : Kept es places drawn running) where
  -- nothing is found where nothing stands in the map, or what stands there has another name
  pub missed : (k : Bytes) → ((i : ℕ) (e : Exchange) → get (slice_cmp nat_cmp) places k ≡ Some i → slice_get es i ≡ Some e → e.id ≡ k → ⊥) → lookup es k ≡ None
  missed k not_there = go (lookup es k) refl
    where
      go : (o : Option Exchange) → lookup es k ≡ o → o ≡ None
      go None h = refl
      go (Some e) h =
          let s = found_at es k e h in
          absurd (not_there s.place e (ap (get (slice_cmp nat_cmp) places) (sym s.named) ∙ kept.placed s.place e s.here) s.here s.named)

  pub looked : (k : Bytes) (i : ℕ) (e : Exchange) → get (slice_cmp nat_cmp) places k ≡ Some i → slice_get es i ≡ Some e → e.id ≡ k → Found es k i e
  looked k i e g h q = go (lookup es k) refl
    where
      go : (o : Option Exchange) → lookup es k ≡ o → Found es k i e
      go None n = absurd (none_at es k i e h q n)
      go (Some x) l =
          let s = found_at es k x l in
          let at : get (slice_cmp nat_cmp) places k ≡ Some s.place = ap (get (slice_cmp nat_cmp) places) (sym s.named) ∙ kept.placed s.place x s.here in
          let same : i ≡ s.place = cc in
          let is : x ≡ e = let y : slice_get es i ≡ Some x = ap (slice_get es) same ∙ s.here in cc in
          record { looked_up = l ∙ ap Some is; here = h; named = q }

  pub undrawn : (x : Bytes) → ((i : ℕ) (e : Exchange) → get (slice_cmp nat_cmp) drawn x ≡ Some i → slice_get es i ≡ Some e → e.secret ≡ x → ⊥) → uses es x ≡ false
  undrawn x not_there = elim (cases_Bool (uses es x)) [
    | inl u ↦ let s = drawn_at es x u in absurd (not_there s.place s.exchange (ap (get (slice_cmp nat_cmp) drawn) (sym s.drawn) ∙ kept.known s.place s.exchange s.here) s.here s.drawn)
    | inr u ↦ u
  ]

  -- two that stand here under one name are one
  pub one_place : (i j : ℕ) (e x : Exchange) → slice_get es i ≡ Some e → slice_get es j ≡ Some x → x.id ≡ e.id → j ≡ i
  one_place i j e x h g q =
      let a = kept.placed i e h in
      let b : get (slice_cmp nat_cmp) places e.id ≡ Some j = ap (get (slice_cmp nat_cmp) places) (sym q) ∙ kept.placed j x g in
      cc

  -- another state of one of them
  pub kept_set : (i : ℕ) (e d : Exchange) (after : ℕ) → slice_get es i ≡ Some e → d.id ≡ e.id → d.secret ≡ e.secret → after + cond (ended e.state) 0 1 ≡ running + cond (ended d.state) 0 1 → Kept (set es i d) places drawn after
  kept_set i e d after h p q n = record {
    placed = λ j x g. grind (arith, common_steps, gets, kept.placed j x, kept.placed i e);
    known = λ j x g. grind (arith, common_steps, gets, kept.known j x, kept.known i e);
    counted = let c = counted_store es i e d h in let k = kept.counted in omega (arith, c, k, n);
  }

  -- a new name in a map, for an exchange that is not there yet
  pub kept_places : (k : Bytes) (v : Option ℕ) (after : BTreeMap Bytes ℕ) → lookup es k ≡ None → Updates (slice_cmp nat_cmp) places after k v → Kept es after drawn running
  kept_places k v after n u = record {
    placed = λ i e h. u.2 e.id (apart k e.id (λ q. none_at es k i e h q n)) ∙ kept.placed i e h;
    known = kept.known;
    counted = kept.counted;
  }

  pub kept_drawn : (x : Bytes) (v : Option ℕ) (after : BTreeMap Bytes ℕ) → uses es x ≡ false → Updates (slice_cmp nat_cmp) drawn after x v → Kept es places after running
  kept_drawn x v after n u = record {
    placed = kept.placed;
    known = λ i e h. u.2 e.secret (apart x e.secret (λ q. let t = undrawn_at es x i e h q in cc)) ∙ kept.known i e h;
    counted = kept.counted;
  }

  pub kept_as : (after : BTreeMap Bytes ℕ) → ((q : Bytes) → get (slice_cmp nat_cmp) after q ≡ get (slice_cmp nat_cmp) drawn q) → Kept es places after running
  kept_as after same = record {
    placed = kept.placed;
    known = λ i e h. same e.secret ∙ kept.known i e h;
    counted = kept.counted;
  }

  -- one more, whose names are in the maps
  pub kept_pushed : (e : Exchange) (after : ℕ) → get (slice_cmp nat_cmp) places e.id ≡ Some (length es) → get (slice_cmp nat_cmp) drawn e.secret ≡ Some (length es) → after ≡ running + cond (ended e.state) 0 1 → Kept (es ++ e ∷ []) places drawn after
  kept_pushed e after p d n = record {
    placed = λ i x g. grind (arith, common_steps, gets, kept.placed i x, at_end es e i x g);
    known = λ i x g. grind (arith, common_steps, gets, kept.known i x, at_end es e i x g);
    counted = let c = counted_push es e in let k = kept.counted in omega (arith, c, k, n);
  }
