-- What is read of parts that lie one after another.
use Rattle.std.proofs.Common.{◌≡◌, ℕ, ◌+◌, ◌*◌, ◌/◌, ◌%◌, ◌<◌, List, ◌++◌, length, take, sym, ap, ◌∙◌, append_assoc, arith, length-append}
use Rattle.std.proofs.lemmas.List.{take_at, drop_at}
use Rattle.octets.specs.Octets.{cut}

-- the part after n bytes
pub cut_at : (before part after : List ℕ) (n k : ℕ) → length before ≡ n → length part ≡ k → cut n k (before ++ (part ++ after)) ≡ part
cut_at before part after n k ln lk = rw drop_at (take_at part after k lk)

-- the part after two parts
pub cut_after : (a b part after : List ℕ) (n k : ℕ) → length a + length b ≡ n → length part ≡ k → cut n k (a ++ (b ++ (part ++ after))) ≡ part
cut_after a b part after n k ln lk = ap (cut n k) (sym (append_assoc a b (part ++ after))) ∙ cut_at (a ++ b) part after n k (length-append a b ∙ ln) lk

-- all but the last k bytes
pub before_last : (bytes front back : List ℕ) (n k : ℕ) → bytes ≡ front ++ back → length bytes ≡ n + k → length back ≡ k → take n bytes ≡ front
before_last bytes front back n k e l m = rw e (take_at front back n (omega (arith, length-append front back, ap length e)))

-- a number from its two bytes
pub at16-be16 : (n : ℕ) → n < 65536 → n / 256 % 256 * 256 + n % 256 ≡ n
at16-be16 n h = omega arith
