-- What everybody can compute: digests, and who is listed and has signed what. Assumes nothing.
use Rattle.std.specs.Prelude.{Bool}
use Rattle.papers.specs.declared.Party.{Party}
use Rattle.papers.specs.Encoding.{Bytes}

pub record Scheme : Type 0 where
  -- the digest of a string
  pub digest : Bytes → Bytes
  -- accepts p m s: s passes as p's signature on m
  pub accepts : Party → Bytes → Bytes → Bool
  -- the party is in the directory
  pub lists : Party → Bool
