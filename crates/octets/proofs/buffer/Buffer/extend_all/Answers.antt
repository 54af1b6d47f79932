use Rattle.std.proofs.Common.{◌≡◌, ◌+◌, [], length, take, ap, ◌∙◌, arith, length-append}
use Rattle.std.specs.List.{flat_map}
use Rattle.std.proofs.lemmas.List.Folds.{length-flat_map-take}
use Rattle.octets.proofs.buffer.Buffer.extend_all.Goals as goal

pub extend-requires : goal.extend-requires
extend-requires g c =
    let parts = c.args.parts.now in
    let i = c.loop-part.part-index in
    let room = length-flat_map-take (λ p. p.now) parts i (record { ref_ptr = (0, 0); now = [] }) c.loop-part-test.true in
    let so_far : length c.loop-part.self ≡ length c.args.self.now + length (flat_map (λ p. p.now) (take i parts)) = ap length c.loop-part.invariant ∙ length-append c.args.self.now _ in
    (omega (arith, c.requires.small), omega (arith, room, so_far, c.requires.fits))
