use Rattle.std.proofs.Common.{◌≡◌, ◌+◌, ◌++◌, List, ℕ, length, sym, ap, ◌∙◌, arith, length-append}
use Rattle.octets.proofs.Cut.{before_last}
use Rattle.signing.proofs.head.Goals as goal

-- the bytes are as long as the head and a signature
long : (bytes front back : List ℕ) → bytes ≡ front ++ back → length back ≡ 64 → length bytes ≡ length front + 64
long bytes front back e k = ap length e ∙ length-append front back ∙ ap (λ n. length front + n) k

pub overflow_sub-n : goal.overflow_sub-n
overflow_sub-n g c =
    let paper = c.args.paper.now in
    let k : length (g.P.Signed.signature paper) ≡ 64 = sym (ap length c.signature.ensures.value) ∙ c.signature.ensures.len in
    omega (arith, long c.args.bytes.now (g.P.Signed.head paper) (g.P.Signed.signature paper) (c.requires ∙ g.met.P.Signed.ends paper) k)

pub returns : goal.returns
returns g c =
    let bytes = c.args.bytes.now in
    let paper = c.args.paper.now in
    let e : bytes ≡ g.P.Signed.head paper ++ g.P.Signed.signature paper = c.requires ∙ g.met.P.Signed.ends paper in
    let k : length (g.P.Signed.signature paper) ≡ 64 = sym (ap length c.signature.ensures.value) ∙ c.signature.ensures.len in
    before_last bytes _ _ _ 64 e (omega (arith, long bytes (g.P.Signed.head paper) (g.P.Signed.signature paper) e k)) k
