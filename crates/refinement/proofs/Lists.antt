-- Tables of exchanges: what is found after a change. Assumes nothing.
use Rattle.std.proofs.Common.{◌≡◌, ◌+◌, false, leb, [], ◌∷◌, ◌++◌, Some, None, Option, sym, refl, ap, ◌∙◌, subst, arith}
use Rattle.std.specs.Str.{bytes_eq}
use Rattle.std.proofs.lemmas.Bool.{cond_both}
use Rattle.std.proofs.lemmas.Bool.Decides.{not_from_Decides}
use Rattle.std.proofs.lemmas.Slice.Eq.{bytes_eq-Decides}
use Rattle.std.proofs.lemmas.Option.{none-some}
use Rattle.papers.specs.declared.Paper.{Paper}
use Rattle.papers.specs.Encoding.{Bytes}
use Rattle.exchange.specs.declared.State.{State}
use Rattle.exchange.specs.declared.State.TheVariants.{AskedOff, AskedStands, Asked}
use Rattle.exchange.specs.declared.Exchange.{Exchange}
use Rattle.exchange.specs.declared.Effect.{Effect}
use Rattle.exchange.specs.declared.Effect.TheVariants.{Nothing}
use Rattle.exchange.specs.Steps.{with_state, to_notary, tick_in, tick}
use Rattle.side.specs.Table.{Exchanges, lookup, store, uses, ticked}
use Rattle.refinement.specs.Calls.{Alone}

-- what is found at a head
pub head_here : (e : Exchange) (es : Exchanges) (k : Bytes) → e.id ≡ k → lookup (e ∷ es) k ≡ Some e
unfolding lookup
head_here e es k q = grind (arith, bytes_eq-Decides)

pub head_past : (e : Exchange) (es : Exchanges) (k : Bytes) → (e.id ≡ k → ⊥) → lookup (e ∷ es) k ≡ lookup es k
unfolding lookup
head_past e es k d = grind (arith, bytes_eq-Decides)

pub store_here : (e : Exchange) (es : Exchanges) (k : Bytes) (d : Exchange) → e.id ≡ k → store (e ∷ es) k d ≡ d ∷ es
unfolding store
store_here e es k d q = grind (arith, bytes_eq-Decides)

pub store_past : (e : Exchange) (es : Exchanges) (k : Bytes) (d : Exchange) → (e.id ≡ k → ⊥) → store (e ∷ es) k d ≡ e ∷ store es k d
unfolding store
store_past e es k d n = grind (arith, bytes_eq-Decides)

-- what is found has this id
pub found_id : (es : Exchanges) (k : Bytes) (e : Exchange) → lookup es k ≡ Some e → e.id ≡ k
unfolding lookup
found_id [] k e h = cc
found_id (x ∷ es) k e h = grind (arith, bytes_eq-Decides, found_id es k e)

pub look_none : (k : Bytes) → lookup [] k ≡ None
unfolding lookup
look_none k = refl

pub look_stored : (es : Exchanges) (k : Bytes) (e d : Exchange) → lookup es k ≡ Some e → d.id ≡ k → lookup (store es k d) k ≡ Some d
unfolding lookup store
look_stored [] k e d h i = cc
look_stored (x ∷ es) k e d h i = grind (arith, bytes_eq-Decides, look_stored es k e d)

pub look_other : (es : Exchanges) (k j : Bytes) (d : Exchange) → d.id ≡ k → (k ≡ j → ⊥) → lookup (store es k d) j ≡ lookup es j
unfolding lookup store
look_other [] k j d i n = refl
look_other (x ∷ es) k j d i n = grind (arith, bytes_eq-Decides, look_other es k j d i n)

pub alone : Alone
alone es k j d i q = look_other es k j d i (not_from_Decides _ (bytes_eq-Decides k j) q)

-- a new exchange at the end
pub pushed_here : (es : Exchanges) (e : Exchange) → lookup es e.id ≡ None → lookup (es ++ (e ∷ [])) e.id ≡ Some e
unfolding lookup
pushed_here [] e h = grind (arith, bytes_eq-Decides)
pushed_here (x ∷ es) e h = grind (arith, bytes_eq-Decides, pushed_here es e)

pub pushed_other : (es : Exchanges) (e : Exchange) (k : Bytes) → (e.id ≡ k → ⊥) → lookup (es ++ (e ∷ [])) k ≡ lookup es k
unfolding lookup
pushed_other [] e k n = grind (arith, bytes_eq-Decides)
pushed_other (x ∷ es) e k n = grind (arith, bytes_eq-Decides, pushed_other es e k n)

-- a secret that is not used is none of theirs
pub unused : (es : Exchanges) (x : Bytes) → uses es x ≡ false → (k : Bytes) (e : Exchange) → lookup es k ≡ Some e → e.secret ≡ x → ⊥
unfolding lookup uses
unused [] x u k e h q = cc
unused (y ∷ es) x u k e h q = grind (arith, bytes_eq-Decides, unused es x)

-- ---- ids that differ
unfoldable pub Distinct : Exchanges → Type 0
Distinct [] = Unit {0}
Distinct (e ∷ es) = (lookup es e.id ≡ None) × Distinct es

pub distinct_none : Distinct []
unfolding Distinct
distinct_none = tt

pub distinct_head : (e : Exchange) (es : Exchanges) → Distinct (e ∷ es) → (lookup es e.id ≡ None) × Distinct es
unfolding Distinct
distinct_head e es d = d

pub distinct_push : (es : Exchanges) (e : Exchange) → Distinct es → lookup es e.id ≡ None → Distinct (es ++ (e ∷ []))
unfolding Distinct
distinct_push [] e d h = (look_none e.id, tt)
distinct_push (x ∷ es) e d h =
    let n : x.id ≡ e.id → ⊥ = λ q. none-some _ (sym h ∙ head_here x es e.id q) in
    (pushed_other es e x.id (λ q. n (sym q)) ∙ d.0, distinct_push es e d.1 (sym (head_past x es e.id n) ∙ h))

pub distinct_store : (es : Exchanges) (k : Bytes) (d : Exchange) → Distinct es → d.id ≡ k → Distinct (store es k d)
unfolding Distinct store
distinct_store [] k d z i = tt
distinct_store (x ∷ es) k d z i =
    cond_both (bytes_eq x.id k) (d ∷ es) (x ∷ store es k d) Distinct (λ q. (subst (λ j. lookup es j ≡ None) ((bytes_eq-Decides x.id k).0 q ∙ sym i) z.0, z.1))
    (λ q. (look_other es k x.id d i (λ e. not_from_Decides _ (bytes_eq-Decides x.id k) q (sym e)) ∙ z.0, distinct_store es k d z.1 i))

-- ---- ticks
pub tick_id : (e : Exchange) → (tick e).0.id ≡ e.id
unfolding tick
tick_id e = go e.state
  where
    P : Exchange × Effect → Type 0
    P d = d.0.id ≡ e.id

    go : (s : State) → P (tick_in e s)
    go (AskedOff w t) = cond_both (leb 63 t) (with_state e (AskedOff w 0), to_notary e (Paper.Off w)) (with_state e (AskedOff w (t + 1)), Nothing) P (λ _. refl) (λ _. refl)
    go (AskedStands q t) = cond_both (leb 63 t) (with_state e (AskedStands q 0), to_notary e (Paper.Question q)) (with_state e (AskedStands q (t + 1)), Nothing) P (λ _. refl) (λ _. refl)
    go (Asked q t) = cond_both (leb 63 t) (with_state e (Asked q 0), to_notary e (Paper.Question q)) (with_state e (Asked q (t + 1)), Nothing) P (λ _. refl) (λ _. refl)
    go s = refl

abbrev pub tick_found : Option Exchange → Option Exchange
tick_found None = None
tick_found (Some e) = Some (tick e).0

pub look_ticked : (es : Exchanges) (k : Bytes) → lookup (ticked es) k ≡ tick_found (lookup es k)
unfolding lookup ticked
look_ticked [] k = refl
look_ticked (e ∷ es) k = grind (arith, bytes_eq-Decides, tick_id, look_ticked es k)

pub distinct_ticked : (es : Exchanges) → Distinct es → Distinct (ticked es)
unfolding Distinct ticked
distinct_ticked [] d = tt
distinct_ticked (e ∷ es) d = (look_ticked es (tick e).0.id ∙ ap (λ k. tick_found (lookup es k)) (tick_id e) ∙ ap tick_found d.0, distinct_ticked es d.1)
