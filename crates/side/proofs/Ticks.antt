-- Ticks of a table, exchange by exchange.
use Rattle.std.proofs.Common.{◌≡◌, ℕ, zero, suc, ◌+◌, [], ◌∷◌, ◌++◌, length, get_or, take, drop, ◌<◌, List, Some, sym, refl, add-one, append_assoc, ap, ◌∙◌, arith}
use Rattle.std.specs.Ordering.{nat_cmp}
use Rattle.std.specs.Cmp.Lexicographic.{slice_cmp}
use Rattle.std.specs.BTreeMap.{BTreeMap, get}
use Rattle.papers.specs.Encoding.{Bytes}
use Rattle.side.specs.Places.{Kept}
use Rattle.std.specs.Prelude.{slice_get}
use Rattle.std.proofs.Math.ListN.{set}
use Rattle.std.proofs.lemmas.Option.{slice_get-get_or}
use Rattle.exchange.specs.declared.Post.{Post}
use Rattle.exchange.specs.declared.Effect.{Effect}
use Rattle.exchange.specs.declared.Exchange.{Exchange}
use Rattle.exchange.specs.Steps.{tick}
use Rattle.side.specs.Table.{Exchanges, posts_in, open_count, ticked, tick_posts}
use Rattle.side.proofs.Keeps.{keeps_tick}

pub ticked_here : (es : Exchanges) (i : ℕ) → slice_get (ticked (take i es) ++ drop i es) i ≡ slice_get es i
unfolding ticked
ticked_here [] zero = refl
ticked_here [] (suc i) = refl
ticked_here (x ∷ es) zero = refl
ticked_here (x ∷ es) (suc i) = ticked_here es i

pub ticked_more : (es : Exchanges) (i : ℕ) (e : Exchange) → slice_get es i ≡ Some e → set (ticked (take i es) ++ drop i es) i (tick e).0 ≡ ticked (take (suc i) es) ++ drop (suc i) es
unfolding ticked
ticked_more [] i e h = cc
ticked_more (x ∷ es) zero e h = grind arith
ticked_more (x ∷ es) (suc i) e h = ap (λ l. (tick x).0 ∷ l) (ticked_more es i e h)

-- the same, of what a loop has at this place
pub ticked_next : (es now : Exchanges) (i : ℕ) (d : Exchange) (r : Exchange × Effect) → now ≡ ticked (take i es) ++ drop i es → i < length now → r ≡ tick (get_or now i d) → set now i r.0 ≡ ticked (take (i + 1) es) ++ drop (i + 1) es
ticked_next es now i d r q h t =
    let here : slice_get es i ≡ Some (get_or now i d) = sym (ticked_here es i) ∙ ap (λ l. slice_get l i) (sym q) ∙ slice_get-get_or now i d h in
    rw add-one (ap (λ z. set now i z.0) t ∙ ap (λ l. set l i (tick (get_or now i d)).0) q ∙ ticked_more es i (get_or now i d) here)

pub posts_more : (es : Exchanges) (i : ℕ) (e : Exchange) → slice_get es i ≡ Some e → tick_posts (drop i es) ≡ posts_in (tick e).1 ++ tick_posts (drop (suc i) es)
unfolding tick_posts
posts_more [] i e h = cc
posts_more (x ∷ es) zero e h = grind arith
posts_more (x ∷ es) (suc i) e h = posts_more es i e h

pub posts_next : (es : Exchanges) (i : ℕ) (d : Exchange) (said : List Post) → i < length es → said ++ tick_posts (drop i es) ≡ tick_posts es → (said ++ posts_in (tick (get_or es i d)).1) ++ tick_posts (drop (i + 1) es) ≡ tick_posts es
posts_next es i d said h q = rw (add-one, append_assoc, ← posts_more es i (get_or es i d) (slice_get-get_or es i d h)) q

-- the exchange here before the tick
pub record TickOf (es : Exchanges) (i : ℕ) (x : Exchange) : Type 0 where
  pub was : Exchange
  pub here : slice_get es i ≡ Some was
  pub is : x ≡ (tick was).0

pub ticked_at : (es : Exchanges) (i : ℕ) (x : Exchange) → slice_get (ticked es) i ≡ Some x → TickOf es i x
unfolding ticked
ticked_at [] i x h = cc
ticked_at (y ∷ es) zero x h = record { was = y; here = refl; is = grind arith }
ticked_at (y ∷ es) (suc i) x h = let r = ticked_at es i x h in record { was = r.was; here = r.here; is = r.is }

pub ticked_count : (es : Exchanges) → open_count (ticked es) ≡ open_count es
unfolding ticked open_count
ticked_count [] = refl
ticked_count (e ∷ es) = grind (arith, ticked_count es, (keeps_tick e).ended)

pub kept_ticked : {es : Exchanges} {places drawn : BTreeMap Bytes ℕ} {running : ℕ} → Kept es places drawn running → Kept (ticked es) places drawn running
kept_ticked {es} {places} {drawn} k = record {
  placed = λ i x g.
      let t = ticked_at es i x g in
      ap (get (slice_cmp nat_cmp) places) (ap (λ z. z.id) t.is ∙ (keeps_tick t.was).id) ∙ k.placed i t.was t.here;
  known = λ i x g.
      let t = ticked_at es i x g in
      ap (get (slice_cmp nat_cmp) drawn) (ap (λ z. z.secret) t.is ∙ (keeps_tick t.was).secret) ∙ k.known i t.was t.here;
  counted = k.counted ∙ sym (ticked_count es);
}
