-- What a call of a side gives, by what the table says. Assumes nothing.
use Rattle.std.specs.Prelude.{◌≡◌, true, is_ok, Ok, Err, Result}
use Rattle.papers.specs.Fault.{number}
use Rattle.side.specs.declared.Refused.{Refused}
use Rattle.side.specs.Table.{Exchanges, Answer}

-- the answer, with the table after it; a refusal by its number; or, without memory and where nothing is refused, no change
abbrev pub Gives : {X : Type 0} → Answer X → (before after : Exchanges) → Result X Refused → Type 0
Gives a before after (Ok x) = a ≡ (after, Ok x)
Gives a before after (Err (Refused.Fault f)) = a ≡ (after, Err (number f))
Gives a before after (Err Refused.OutOfMemory) = (after ≡ before) × (is_ok a.1 ≡ true)
