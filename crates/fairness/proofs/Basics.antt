-- Tests, membership and maps. Assumes nothing.
use Rattle.std.proofs.Common.{◌≡◌, ℕ, Bool, true, cond, not, ◌||◌, T, ◌⊎◌, List, [], ◌∷◌, ◌++◌, Some, Option, sym, subst, inl, inr, arith}
use Rattle.std.proofs.lemmas.Bool.{cases_Bool}
use Rattle.std.proofs.lemmas.Bool.Decides.{Decides-eqb, not_from_Decides}
use Rattle.std.proofs.lemmas.Slice.Eq.{bytes_eq-Decides}
use Rattle.std.specs.Str.{bytes_eq}
use Rattle.fairness.specs.World.{In, set}

pub passes : {A : Type 0} (b : Bool) (x y : A) → T b → cond b x y ≡ x
passes b x y t = grind arith

pub is_true : (b : Bool) → T b → b ≡ true
is_true b t = grind arith

pub not_i : (a : Bool) → (T a → ⊥) → T (not a)
not_i a h = grind arith

pub or_l : (a b : Bool) → T a → T (a || b)
or_l a b t = grind arith

pub or_r : (a b : Bool) → T b → T (a || b)
or_r a b t = grind arith

pub same→eq : (xs ys : List ℕ) → T (bytes_eq xs ys) → xs ≡ ys
same→eq xs ys t = grind (arith, bytes_eq-Decides)

pub eq→same : (xs ys : List ℕ) → xs ≡ ys → T (bytes_eq xs ys)
eq→same xs ys e = grind (arith, bytes_eq-Decides)

pub alike : (xs ys : List ℕ) → (xs ≡ ys) ⊎ (xs ≡ ys → ⊥)
alike xs ys = elim (cases_Bool (bytes_eq xs ys)) [ inl e ↦ inl ((bytes_eq-Decides xs ys).0 e) | inr e ↦ inr (not_from_Decides _ (bytes_eq-Decides xs ys) e) ]

pub in_left : {A : Type 0} (x : A) (xs ys : List A) → In x xs → In x (xs ++ ys)
in_left x [] ys i = absurd i
in_left x (z ∷ xs) ys i = grind (arith, in_left x xs ys)

pub in_right : {A : Type 0} (x : A) (xs ys : List A) → In x ys → In x (xs ++ ys)
in_right x [] ys i = i
in_right x (z ∷ xs) ys i = inr (in_right x xs ys i)

pub in_either : {A : Type 0} (x : A) (xs ys : List A) → In x (xs ++ ys) → In x xs ⊎ In x ys
in_either x [] ys i = inr i
in_either x (z ∷ xs) ys i = grind (arith, in_either x xs ys)

module _ {A : Type 0} (n : ℕ) (k : List ℕ) (a : A) (f : ℕ → List ℕ → Option A) where
  pub set_here : set n k a f n k ≡ Some a
  unfolding set
  set_here = grind (arith, bytes_eq-Decides, Decides-eqb)

  -- what is there afterwards: the new, or what was there before, in another place
  pub set_cases : (m : ℕ) (j : List ℕ) (b : A) → set n k a f m j ≡ Some b → ((m ≡ n) × (j ≡ k) × (b ≡ a)) ⊎ ((f m j ≡ Some b) × (m ≡ n → j ≡ k → ⊥))
  unfolding set
  set_cases m j b h = grind (arith, bytes_eq-Decides, Decides-eqb)

  -- what holds of the new, and of what was there before in another place, holds of all
  pub set_all : (P : ℕ → List ℕ → A → Type 0) → P n k a → ((m : ℕ) (j : List ℕ) (b : A) → f m j ≡ Some b → (m ≡ n → j ≡ k → ⊥) → P m j b) → (m : ℕ) (j : List ℕ) (b : A) → set n k a f m j ≡ Some b → P m j b
  set_all P new old m j b h = go (set_cases m j b h)
    where
      go : ((m ≡ n) × (j ≡ k) × (b ≡ a)) ⊎ ((f m j ≡ Some b) × (m ≡ n → j ≡ k → ⊥)) → P m j b
      go (inl x) = subst (λ z. P z j b) (sym x.0) (subst (λ z. P n z b) (sym x.1) (subst (P n k) (sym x.2) new))
      go (inr x) = old m j b x.0 x.1

  -- what was there stays, but for the place that was set
  pub set_keeps : (m : ℕ) (j : List ℕ) (b : A) → f m j ≡ Some b → ((m ≡ n) × (j ≡ k)) ⊎ (set n k a f m j ≡ Some b)
  unfolding set
  set_keeps m j b h = grind (arith, bytes_eq-Decides, Decides-eqb)

  pub set_other : (m : ℕ) (j : List ℕ) → (m ≡ n → j ≡ k → ⊥) → set n k a f m j ≡ f m j
  unfolding set
  set_other m j d = grind (arith, bytes_eq-Decides, Decides-eqb)
