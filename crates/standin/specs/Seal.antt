-- The stand-in for signatures: no protection, since whoever knows a public half can sign with it. Assumes nothing.
use Rattle.std.specs.Prelude.{Bool, false, cond, ◌&&◌, List, ◌∷◌, ◌++◌, length, replicate, is_some, Some, None, Option, nat_le}
use Rattle.std.specs.List.{find}
use Rattle.std.specs.Option.{option_map}
use Rattle.std.specs.Str.{bytes_eq}
use Rattle.sha256.specs.Sha256.{digested}
use Rattle.papers.specs.declared.Party.{Party}
use Rattle.papers.specs.Party.{same_party}
use Rattle.papers.specs.Encoding.{Bytes}
use Rattle.signing.specs.Scheme.{Scheme}
use Rattle.standin.specs.declared.Member.{Member}

-- the public half of a key
abbrev pub public_half : Bytes → Bytes
public_half key = digested (0 ∷ key)

-- the public half, then the message, digested; then that once more
unfoldable pub sealed : Bytes → Bytes → Bytes
sealed public m = digested (public ++ m) ++ digested (public ++ digested (public ++ m))

-- messages up to this length can be signed
abbrev pub short : Bytes → Bool
short m = nat_le (length m) 480

unfoldable pub signed : Bytes → Bytes → Bytes
signed public m = cond (short m) (sealed public m) (replicate 64 0)

unfoldable pub passes : Option Bytes → Bytes → Bytes → Bool
passes None m s = false
passes (Some public) m s = short m && bytes_eq (sealed public m) s

-- a line of the directory, by a party and its key
abbrev pub member_of : Party × Bytes → Member
member_of k = record { party = k.0; public = public_half k.1 }

-- the first entry of a party
abbrev pub found : List Member → Party → Option Bytes
found xs p = option_map (λ (x : Member). x.public) (find (λ (x : Member). same_party x.party p) xs)

abbrev pub scheme_of : List Member → Scheme
scheme_of xs = record { digest = digested; accepts = λ p m s. passes (found xs p) m s; lists = λ p. is_some (found xs p) }
