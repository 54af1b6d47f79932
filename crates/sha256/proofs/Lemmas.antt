-- What the code's words say in those of specs/Sha256.antt.
use Rattle.std.proofs.Common.{◌≡◌, ℕ, zero, suc, ◌+◌, ◌-◌, ◌*◌, ◌/◌, ◌%◌, ◌^◌, ◌<◌, ◌≤◌, List, [], map, ◌∷◌, ◌++◌, length, get_or, take, drop, set, replicate, sym, refl, ap, ◌∙◌, append_assoc, suc-add, zero-add, arith}
use Rattle.std.proofs.lemmas.List.{take_more_set, length-take-le, get_or-take, length-append, take-replicate, take-append-le, drop-append-le, drop-drop, length-drop, get_or-drop}
use Rattle.std.specs.List.{range_with_len, fold, zip}
use Rattle.sha256.specs.Sha256.{word, be64, after, extended, scheduled, table, sums, turned, rounds, hashed, compressed, ended, start, bytes, digested}
use Rattle.std.specs.Int.{from_be_bytes, w32}
use Rattle.std.specs.Simd.{first_chunks}
use Rattle.std.proofs.lemmas.List.FromFn.{map-range_with_len_more}

-- ---- the schedule
chunk_at : (n k i : ℕ) (xs d : List ℕ) → i < k → get_or (first_chunks n k xs) i d ≡ take n (drop (n * i) xs)
chunk_at n zero i xs d h = absurd (omega arith)
chunk_at n (suc k) zero xs d h = let e : 0 ≡ n * 0 = omega arith in ap (λ m. take n (drop m xs)) e
chunk_at n (suc k) (suc i) xs d h =
    let j : i < k = omega arith in
    let e : n + n * i ≡ n * suc i = omega arith in
    chunk_at n k i (drop n xs) d j ∙ ap (take n) (drop-drop (n * i) n xs ∙ ap (λ m. drop m xs) e)

byte_at : (b d : List ℕ) (i k j : ℕ) → i < k → j < 4 → get_or (get_or (first_chunks 4 k b) i d) j 0 ≡ get_or b (4 * i + j) 0
byte_at b d i k j h l = ap (λ c. get_or c j 0) (chunk_at 4 k i b d h) ∙ get_or-take 4 (drop (4 * i) b) j 0 l ∙ get_or-drop (4 * i) b j 0

pub word_of_chunk : (b d : List ℕ) (i k : ℕ) → i < k → from_be_bytes w32 (get_or (first_chunks 4 k b) i d) ≡ word b i
word_of_chunk b d i k h =
    let e : 4 * i + 0 ≡ 4 * i = omega arith in
    let at = λ (j : ℕ) (l : j < 4). byte_at b d i k j h l in
    rw (at 0 (omega arith), at 1 (omega arith), at 2 (omega arith), at 3 (omega arith), e)

-- one word more of the block
pub word_more : (w b : List ℕ) (ws : List (List ℕ)) (i v : ℕ) → ws ≡ first_chunks 4 (length b / 4) b → i < length w → i < length b / 4 → v ≡ from_be_bytes w32 (get_or ws i []) → take i w ≡ map (word b) (range_with_len 0 i) → take (i + 1) (set w i v) ≡ map (word b) (range_with_len 0 (i + 1))
word_more w b ws i v is l h e o =
    let f : v ≡ word b i = e ∙ ap (λ x. from_be_bytes w32 (get_or x i [])) is ∙ word_of_chunk b [] i (length b / 4) h in
    take_more_set w i v l ∙ ap (λ x. x ++ v ∷ []) o ∙ ap (λ x. map (word b) (range_with_len 0 i) ++ x ∷ []) f ∙ sym (map-range_with_len_more (word b) 0 i i (omega arith))

after-take : (w : List ℕ) (t : ℕ) → 16 ≤ t → after (take t w) t ≡ after w t
unfolding after
after-take w t low =
    let a : t - 2 < t = omega arith in
    let b : t - 7 < t = omega arith in
    let d : t - 15 < t = omega arith in
    let f : t - 16 < t = omega arith in
    rw (get_or-take t w (t - 2) 0 a, get_or-take t w (t - 7) 0 b, get_or-take t w (t - 15) 0 d, get_or-take t w (t - 16) 0 f)

-- one word more of the schedule
pub extended_more : (w : List ℕ) (t v : ℕ) → 16 ≤ t → t < 64 → t < length w → v ≡ after w t → extended (64 - t) (take t w) ≡ extended (64 - (t + 1)) (take (t + 1) (set w t v))
unfolding extended
extended_more w t v low high h e =
    let le : t ≤ length w = omega arith in
    let n : 64 - t ≡ suc (64 - (t + 1)) = omega arith in
    rw (n, extended, length-take-le, after-take, take_more_set, e)

-- ---- the rounds
rounds_is : (s ks ws : List ℕ) → fold (λ x kw. turned x kw.0 kw.1) s (zip ks ws) ≡ rounds s ks ws
rounds_is s [] ws = refl
rounds_is s (k ∷ ks) [] = refl
rounds_is s (k ∷ ks) (w ∷ ws) = rounds_is (turned s k w) ks ws

pub compressed_is : (s b x : List ℕ) → x ≡ fold (λ x kw. turned x kw.0 kw.1) s (zip table (scheduled b)) → sums s x ≡ compressed s b
unfolding compressed
compressed_is s b x e = ap (sums s) (e ∙ rounds_is s table (scheduled b))

-- ---- the padding
pub ended_is : (m : List ℕ) (n : ℕ) → length m ≡ n % 64 → ((m ++ 128 ∷ []) ++ take ((119 - length m) % 64) (replicate 64 0)) ++ be64 (n * 8 % 2 ^ 64) ≡ ended m n
unfolding ended
ended_is m n h =
    let z : take ((119 - n % 64) % 64) (replicate {A = ℕ} 64 0) ≡ replicate ((119 - n % 64) % 64) 0 = take-replicate _ 64 0 (omega arith) in
    rw (h, z) (simp append_assoc)

-- ---- the blocks
hashed_is : (n : ℕ) (s m : List ℕ) → fold compressed s (first_chunks 64 n m) ≡ hashed n s m
unfolding hashed
hashed_is zero s m = refl
hashed_is (suc n) s m = hashed_is n (compressed s (take 64 m)) (drop 64 m)

-- p whole blocks of m, and then q of what is left of it and t
hashed-append : (p q : ℕ) (s m t : List ℕ) → p * 64 ≤ length m → hashed (p + q) s (m ++ t) ≡ hashed q (hashed p s m) (drop (p * 64) m ++ t)
unfolding hashed
hashed-append zero q s m t h = rw zero-add
hashed-append (suc p) q s m t h =
    let one : 64 ≤ length m = omega arith in
    let rest : p * 64 ≤ length (drop 64 m) = omega (arith, length-drop {A = ℕ}) in
    let k : 64 + p * 64 ≡ suc p * 64 = omega arith in
    rw (suc-add, hashed, take-append-le, drop-append-le, hashed-append p q (compressed s (take 64 m)) (drop 64 m) t rest, drop-drop, k)

in_blocks : (s m t : List ℕ) → let e = drop (length m / 64 * 64) m ++ t in fold compressed (fold compressed s (first_chunks 64 (length m / 64) m)) (first_chunks 64 (length e / 64) e) ≡ hashed (length (m ++ t) / 64) s (m ++ t)
in_blocks s m t =
    let p = length m / 64 in
    let e = drop (p * 64) m ++ t in
    let le : p * 64 ≤ length m = omega arith in
    let n : length (m ++ t) / 64 ≡ p + length e / 64 = omega (arith, length-append (drop (p * 64) m) t, length-append m t, length-drop (p * 64) m) in
    rw (hashed_is p s m, hashed_is (length e / 64) _ e, n, hashed-append p (length e / 64) s m t le)

-- a message's whole blocks, and then its end
pub digest_is : (m e : List ℕ) → e ≡ ended (drop (length m / 64 * 64) m) (length m) → bytes (fold compressed (fold compressed start (first_chunks 64 (length m / 64) m)) (first_chunks 64 (length e / 64) e)) ≡ digested m
unfolding digested ended
digest_is m e h = rw h (ap bytes (in_blocks start m _))
