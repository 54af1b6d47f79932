-- Who signs. Assumes nothing.
use Rattle.std.specs.Prelude.{Bool, false, ◌==◌}
use Rattle.papers.specs.declared.Party.{Party}
use Rattle.papers.specs.declared.Party.TheVariants.{Side, Notary}

-- sides and notaries are numbered apart
abbrev pub same_party : Party → Party → Bool
same_party (Side a) (Side b) = a == b
same_party (Side a) (Notary b) = false
same_party (Notary a) (Side b) = false
same_party (Notary a) (Notary b) = a == b
