-- A setting that meets the laws, and runs in it: so no premise of the promise is empty. Assumes nothing.
use Rattle.std.specs.Prelude.{◌≡◌, true, ◌++◌, take, replicate, Some}
use Rattle.std.specs.Str.{bytes_eq}
use Rattle.papers.specs.declared.Party.{Party}
use Rattle.papers.specs.declared.Notice.{Notice}
use Rattle.papers.specs.Encoding.{Bytes}
use Rattle.contract.specs.declared.Contract.{Contract}
use Rattle.exchange.specs.declared.State.TheVariants.{Bound, Free}
use Rattle.exchange.specs.declared.Exchange.{Exchange}
use Rattle.fairness.specs.World.{Setting, Laws, World, Reach}
use Rattle.fairness.specs.Promise.{SignOk}

-- Strings of 32 bytes are their own digests, and a signature is the start of the message: enough to play with, and no protection.
abbrev pub short_digest : Bytes → Bytes
short_digest x = take 32 (x ++ replicate 32 1)

abbrev pub short_signature : Bytes → Bytes
short_signature m = take 64 (m ++ replicate 64 2)

-- everybody is listed, and keeps to the rules
abbrev pub setting : Setting
setting = record {
  scheme = record { digest = short_digest; accepts = λ p m s. bytes_eq s (short_signature m); lists = λ p. true };
  sign = λ p m. short_signature m;
  honest = λ p. true;
}

-- A run from the start after which both sides of an offer are bound.
pub record BothBound : Type 0 where
  pub world : World
  pub reached : Reach setting world
  pub id : Bytes
  pub first : Exchange
  pub second : Exchange
  pub here : world.sides 1 id ≡ Some first
  pub there : world.sides 2 id ≡ Some second
  pub papers : Contract
  pub first_bound : first.state ≡ Bound papers
  pub second_bound : second.state ≡ Bound papers

-- A run from the start after which the first side is free by the notary's Off.
pub record CalledOff : Type 0 where
  pub world : World
  pub reached : Reach setting world
  pub id : Bytes
  pub first : Exchange
  pub here : world.sides 1 id ≡ Some first
  pub off : Notice
  pub freed : first.state ≡ Free off
  pub book : world.books 1 id ≡ Some off

-- one's own signatures pass, the laws are met, and both runs are there
abbrev pub PremisesMet : Type 0
PremisesMet = Laws setting × ((p : Party) → SignOk setting p) × BothBound × CalledOff
