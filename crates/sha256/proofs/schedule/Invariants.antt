use Rattle.std.proofs.Common.{◌≡◌, ◌-◌, map, length, take}
use Rattle.std.specs.List.{range_with_len}
use Rattle.sha256.specs.Sha256.{word, extended, scheduled}
use Rattle.sha256.proofs.schedule.Given as goal

abbrev pub invariant-loop-i : goal.invariant-loop-i
invariant-loop-i l = (length l.w ≡ 64) × (take l.i l.w ≡ map (word l.block) (range_with_len 0 l.i))

abbrev pub invariant-loop-t : goal.invariant-loop-t
invariant-loop-t l = (length l.w ≡ 64) × (extended (64 - l.t) (take l.t l.w) ≡ scheduled l.block)
