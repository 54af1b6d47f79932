-- A paper has no fault by itself where its parties are known and its signatures right.
use Rattle.std.proofs.Common.{◌≡◌, ℕ, Bool, true, false, cond, not, ◌&&◌, is_some, is_ok, Some, None, Ok, Err, Result, refl, ap, ◌∙◌}
use Rattle.papers.specs.declared.Fault.{Fault}
use Rattle.signing.specs.Checks.{fault_in, known, signed, vetted, sound}
use Rattle.contract.proofs.is_sound.Goals as goal

no_fault : {X : Type 0} (r : Result X Fault) → is_ok r ≡ not (is_some (fault_in r))
no_fault (Ok x) = refl
no_fault (Err f) = refl

both : (k s : Bool) → not (is_some {T = ℕ} (cond k (cond s None (Some 3)) (Some 2))) ≡ (k && s)
both true true = refl
both true false = refl
both false s = refl

pub returns : goal.returns
unfolding vetted sound
returns g c =
    let S = g.K.Signatures.scheme c.args.keys.now in
    let x = c.args.paper.now in
    c.is_ok.ensures.value ∙ no_fault c.vet.result ∙ ap (λ o. not (is_some o)) c.vet.ensures ∙ both (known S x) (signed S x)
