use Rattle.std.proofs.Common.{ap, ◌∙◌}
use Rattle.side.proofs.Keeps.{keeps_ask}
use Rattle.side.proofs.calls.Side.ask.Goals as goal

pub moved-requires-clause-id : goal.moved-requires-clause-id
moved-requires-clause-id g c = ap (λ d. d.0.id) c.ask-outcome.ensures ∙ (keeps_ask (g.K.Signatures.scheme c.args.self.now.keys) (g.K.Signatures.signs c.args.self.now.keys) _).id

pub moved-requires-clause-secret : goal.moved-requires-clause-secret
moved-requires-clause-secret g c = ap (λ d. d.0.secret) c.ask-outcome.ensures ∙ (keeps_ask (g.K.Signatures.scheme c.args.self.now.keys) (g.K.Signatures.signs c.args.self.now.keys) _).secret
