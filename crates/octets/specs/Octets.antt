-- Parts of byte strings. Assumes nothing.
use Rattle.std.specs.Prelude.{ℕ, ◌+◌, ◌*◌, ◌/◌, ◌%◌, List, [], ◌∷◌, ◌++◌, length, take, drop, slice_index}

-- d with part laid over it from `at` on
abbrev pub laid : List ℕ → ℕ → List ℕ → List ℕ
laid d at part = take at d ++ (part ++ drop (at + length part) d)

-- a number in two bytes, high byte first
abbrev pub be16 : ℕ → List ℕ
be16 n = n / 256 % 256 ∷ n % 256 ∷ []

-- the number in the two bytes from i on
abbrev pub at16 : List ℕ → ℕ → ℕ
at16 b i = slice_index b i * 256 + slice_index b (i + 1)

-- the n bytes from i on
abbrev pub cut : ℕ → ℕ → List ℕ → List ℕ
cut i n b = take n (drop i b)
