use Rattle.std.proofs.Common.{rules, ◌≡◌, ◌≤◌, List, false, length, subst, arith}
use Rattle.std.proofs.lemmas.Bool.{ltb-false}
use Rattle.oc_code.specs.Scope.{Named, named}
use Rattle.oc_codegen.proofs.LastPlaces.{none_fresh}
use Rattle.oc_codegen.proofs.scope.Scope.has_fresh.Goals as goal

pub returns : goal.returns
returns c =
    let bs = c.self.inside.bindings.items in
    let n = c.self.inside.plain in
    let many : c.len.result ≡ length bs = search rules in
    λ h x. (
    let all : length bs ≤ n = omega (arith, many, ltb-false n c.len.result h) in
    subst (λ (γ : List Named). (named γ x).fresh ≡ false) c.self.view_is (none_fresh n bs all c.self.invariant.1 x)
    )
