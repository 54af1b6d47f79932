use Rattle.std.proofs.Common.{ap, ◌∙◌}
use Rattle.side.proofs.Keeps.{keeps_receive}
use Rattle.side.proofs.calls.Side.hear_in.Goals as goal

pub moved-requires-clause-id : goal.moved-requires-clause-id
moved-requires-clause-id g c = ap (λ d. d.0.id) c.receive-outcome.ensures ∙ (keeps_receive (g.K.Signatures.scheme c.args.self.now.keys) _ c.args.paper.now).id

pub moved-requires-clause-secret : goal.moved-requires-clause-secret
moved-requires-clause-secret g c = ap (λ d. d.0.secret) c.receive-outcome.ensures ∙ (keeps_receive (g.K.Signatures.scheme c.args.self.now.keys) _ c.args.paper.now).secret
