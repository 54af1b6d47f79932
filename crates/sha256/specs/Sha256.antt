-- SHA-256 as RFC 6234 defines it: bytes and words are numbers, messages and states are lists.
-- Assumes nothing.
use Rattle.std.specs.Prelude.{ℕ, zero, suc, ◌+◌, ◌-◌, ◌*◌, ◌/◌, ◌%◌, ◌^◌, List, [], ◌∷◌, ◌++◌, map, length, take, drop, replicate, bit_and, bit_or, bit_xor, slice_index}
use Rattle.std.specs.List.{range_with_len, flat_map}

-- section 3: sums modulo 2 ^ 32, shifts and rotations of words of 32 bits
infixl 20 ◌⊞◌
abbrev pub ◌⊞◌ : ℕ → ℕ → ℕ
x ⊞ y = (x + y) % 2 ^ 32

abbrev pub rotr : ℕ → ℕ → ℕ
rotr n x = bit_or (x / 2 ^ n) ((x * 2 ^ (32 - n)) % 2 ^ 32)

-- section 5.1: the functions
unfoldable pub ch : ℕ → ℕ → ℕ → ℕ
ch x y z = bit_xor (bit_and x y) (bit_and (2 ^ 32 - 1 - x) z)

unfoldable pub maj : ℕ → ℕ → ℕ → ℕ
maj x y z = bit_xor (bit_xor (bit_and x y) (bit_and x z)) (bit_and y z)

unfoldable pub bsig0 : ℕ → ℕ
bsig0 x = bit_xor (bit_xor (rotr 2 x) (rotr 13 x)) (rotr 22 x)

unfoldable pub bsig1 : ℕ → ℕ
bsig1 x = bit_xor (bit_xor (rotr 6 x) (rotr 11 x)) (rotr 25 x)

unfoldable pub ssig0 : ℕ → ℕ
ssig0 x = bit_xor (bit_xor (rotr 7 x) (rotr 18 x)) (x / 2 ^ 3)

unfoldable pub ssig1 : ℕ → ℕ
ssig1 x = bit_xor (bit_xor (rotr 17 x) (rotr 19 x)) (x / 2 ^ 10)

-- the constants, and the hash that a message starts from (section 6.1)
unfoldable pub table : List ℕ
table =
    0x428a2f98 ∷ 0x71374491 ∷ 0xb5c0fbcf ∷ 0xe9b5dba5 ∷ 0x3956c25b ∷ 0x59f111f1 ∷ 0x923f82a4 ∷ 0xab1c5ed5 ∷
    0xd807aa98 ∷ 0x12835b01 ∷ 0x243185be ∷ 0x550c7dc3 ∷ 0x72be5d74 ∷ 0x80deb1fe ∷ 0x9bdc06a7 ∷ 0xc19bf174 ∷
    0xe49b69c1 ∷ 0xefbe4786 ∷ 0x0fc19dc6 ∷ 0x240ca1cc ∷ 0x2de92c6f ∷ 0x4a7484aa ∷ 0x5cb0a9dc ∷ 0x76f988da ∷
    0x983e5152 ∷ 0xa831c66d ∷ 0xb00327c8 ∷ 0xbf597fc7 ∷ 0xc6e00bf3 ∷ 0xd5a79147 ∷ 0x06ca6351 ∷ 0x14292967 ∷
    0x27b70a85 ∷ 0x2e1b2138 ∷ 0x4d2c6dfc ∷ 0x53380d13 ∷ 0x650a7354 ∷ 0x766a0abb ∷ 0x81c2c92e ∷ 0x92722c85 ∷
    0xa2bfe8a1 ∷ 0xa81a664b ∷ 0xc24b8b70 ∷ 0xc76c51a3 ∷ 0xd192e819 ∷ 0xd6990624 ∷ 0xf40e3585 ∷ 0x106aa070 ∷
    0x19a4c116 ∷ 0x1e376c08 ∷ 0x2748774c ∷ 0x34b0bcb5 ∷ 0x391c0cb3 ∷ 0x4ed8aa4a ∷ 0x5b9cca4f ∷ 0x682e6ff3 ∷
    0x748f82ee ∷ 0x78a5636f ∷ 0x84c87814 ∷ 0x8cc70208 ∷ 0x90befffa ∷ 0xa4506ceb ∷ 0xbef9a3f7 ∷ 0xc67178f2 ∷ []

unfoldable pub start : List ℕ
start = 0x6a09e667 ∷ 0xbb67ae85 ∷ 0x3c6ef372 ∷ 0xa54ff53a ∷ 0x510e527f ∷ 0x9b05688c ∷ 0x1f83d9ab ∷ 0x5be0cd19 ∷ []

-- section 4.1: a one bit, zeros up to 56 modulo 64, and the length in bits in eight bytes, high byte first
abbrev pub be64 : ℕ → List ℕ
be64 n = n / 2 ^ 56 % 256 ∷ n / 2 ^ 48 % 256 ∷ n / 2 ^ 40 % 256 ∷ n / 2 ^ 32 % 256 ∷ n / 2 ^ 24 % 256 ∷ n / 2 ^ 16 % 256 ∷ n / 2 ^ 8 % 256 ∷ n % 256 ∷ []

-- the end of a message of n bytes: what is left of it after its whole blocks, and the padding
unfoldable pub ended : List ℕ → ℕ → List ℕ
ended m n = m ++ 128 ∷ (replicate ((119 - n % 64) % 64) 0 ++ be64 (n * 8 % 2 ^ 64))

abbrev pub padded : List ℕ → List ℕ
padded m = ended m (length m)

-- section 6.2, step 1: the schedule of a block
abbrev pub word : List ℕ → ℕ → ℕ
word b i = slice_index b (4 * i) * 2 ^ 24 + slice_index b (4 * i + 1) * 2 ^ 16 + slice_index b (4 * i + 2) * 2 ^ 8 + slice_index b (4 * i + 3)

-- the word after those in w
unfoldable pub after : List ℕ → ℕ → ℕ
after w t = ((ssig1 (slice_index w (t - 2)) ⊞ slice_index w (t - 7)) ⊞ ssig0 (slice_index w (t - 15))) ⊞ slice_index w (t - 16)

-- n words more
unfoldable pub extended : ℕ → List ℕ → List ℕ
extended zero w = w
extended (suc n) w = extended n (w ++ after w (length w) ∷ [])

unfoldable pub scheduled : List ℕ → List ℕ
scheduled b = extended 48 (map (word b) (range_with_len 0 16))

-- steps 2 and 3: a round, and all of them
unfoldable pub t1 : List ℕ → ℕ → ℕ → ℕ
t1 s k w = (((slice_index s 7 ⊞ bsig1 (slice_index s 4)) ⊞ ch (slice_index s 4) (slice_index s 5) (slice_index s 6)) ⊞ k) ⊞ w

unfoldable pub t2 : List ℕ → ℕ
t2 s = bsig0 (slice_index s 0) ⊞ maj (slice_index s 0) (slice_index s 1) (slice_index s 2)

unfoldable pub turned : List ℕ → ℕ → ℕ → List ℕ
turned s k w =
    (t1 s k w ⊞ t2 s) ∷ slice_index s 0 ∷ slice_index s 1 ∷ slice_index s 2 ∷ (slice_index s 3 ⊞ t1 s k w) ∷ slice_index s 4 ∷ slice_index s 5 ∷ slice_index s 6 ∷ []

abbrev pub rounds : List ℕ → List ℕ → List ℕ → List ℕ
rounds s [] ws = s
rounds s (k ∷ ks) [] = s
rounds s (k ∷ ks) (w ∷ ws) = rounds (turned s k w) ks ws

-- step 4: the sums with the hash before
unfoldable pub sums : List ℕ → List ℕ → List ℕ
sums s x = map (λ i. slice_index s i ⊞ slice_index x i) (range_with_len 0 8)

unfoldable pub compressed : List ℕ → List ℕ → List ℕ
compressed s b = sums s (rounds s table (scheduled b))

-- n blocks, one after the other
unfoldable pub hashed : ℕ → List ℕ → List ℕ → List ℕ
hashed zero s m = s
hashed (suc n) s m = hashed n (compressed s (take 64 m)) (drop 64 m)

abbrev pub be32 : ℕ → List ℕ
be32 n = n / 2 ^ 24 % 256 ∷ n / 2 ^ 16 % 256 ∷ n / 2 ^ 8 % 256 ∷ n % 256 ∷ []

unfoldable pub bytes : List ℕ → List ℕ
bytes s = flat_map (λ i. be32 (slice_index s i)) (range_with_len 0 8)

unfoldable pub digested : List ℕ → List ℕ
digested m = bytes (hashed (length (padded m) / 64) start (padded m))
