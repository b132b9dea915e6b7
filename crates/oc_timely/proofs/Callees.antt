-- A called function stands at the place of its name.
use Rattle.std.proofs.Common.{◌≡◌, ℕ, ◌+◌, [], Some, ap, ◌∙◌, arith}
use Rattle.std.specs.Prelude.{slice_get}
use Rattle.oc_tree.specs.Tree.{TFunction, TProgram}
use Rattle.oc_meaning.proofs.Functions.{place_named}
use Rattle.oc_effects.specs.Effects.{function_effects, effects_at}
use Rattle.oc_laws.proofs.Members.{at_place}
use Rattle.oc_timely.proofs.Calls.{CalleeAt}

pub effects_here : (p : TProgram) (f : ℕ) (g : TFunction) → slice_get p.functions f ≡ Some g → effects_at p f ≡ function_effects p g
effects_here p f g e = at_place (function_effects p) p.functions f g [] e

pub callee_at : (p : TProgram) → CalleeAt p
callee_at p x g e =
    let r = place_named 0 p.functions x g e in
    let same : 0 + r.0 ≡ r.0 = omega arith in
    (r.0, r.1 ∙ ap Some same, r.2, at_place (λ h. h.params) p.functions r.0 g [] r.2)
