use Rattle.std.proofs.Common.{◌≡◌, ◌≤◌, ◌-◌, ◌+◌, ◌∙◌, List, Some, suc, ap, sym, subst, arith, drop, length}
use Rattle.oc_tree.specs.Names.{named_in}
use Rattle.oc_code.specs.Scope.{Named, named}
use Rattle.oc_names.proofs.Entries.{lookup-seen, seen}
use Rattle.oc_codegen.proofs.Bindings.{length_visible}
use Rattle.oc_codegen.proofs.LastPlaces.{looked_at_all, looked_up_to}
use Rattle.oc_codegen.proofs.scope.Scope.reach.Goals as goal

pub returns-then-place-count-clause-within : goal.returns-then-place-count-clause-within
returns-then-place-count-clause-within c =
    let many : length c.args.self.now ≡ length c.self.inside.bindings.items = ap length (sym c.self.view_is) ∙ length_visible c.self.inside.bindings.items in
    omega (arith, many, c.if-place-count.true)

pub returns-then-place-count-clause-same : goal.returns-then-place-count-clause-same
returns-then-place-count-clause-same c =
    let bs = c.self.inside.bindings.items in
    let es = c.self.inside.places.entries in
    let x = c.args.name.now in
    let i = c.in-Some.place.now in
    let e = lookup-seen c.bytes.result.now es in
    let v = c.in-Some.ensures.value in
    let b = c.bytes.ensures in
    let found : named_in (seen es) x ≡ Some i = cc in
    let next : i + 1 ≡ suc i = omega arith in
    subst (λ (γ : List Named). named (drop (length γ - (i + 1)) γ) x ≡ named γ x) c.self.view_is (looked_up_to x i (i + 1) bs es c.self.invariant.0 found next)

pub returns-else-place-count-clause-within : goal.returns-else-place-count-clause-within
returns-else-place-count-clause-within c =
    let many : length c.args.self.now ≡ length c.self.inside.bindings.items = ap length (sym c.self.view_is) ∙ length_visible c.self.inside.bindings.items in
    omega (arith, many)

pub returns-else-place-count-clause-same : goal.returns-else-place-count-clause-same
returns-else-place-count-clause-same c =
    let bs = c.self.inside.bindings.items in
    let x = c.args.name.now in
    let n = c.len-count.result in
    let all : length bs ≤ n = omega (arith, c.len-count.ensures) in
    subst (λ (γ : List Named). named (drop (length γ - n) γ) x ≡ named γ x) c.self.view_is (looked_at_all x n bs all)

pub returns-in-None-clause-within : goal.returns-in-None-clause-within
returns-in-None-clause-within c =
    let many : length c.args.self.now ≡ length c.self.inside.bindings.items = ap length (sym c.self.view_is) ∙ length_visible c.self.inside.bindings.items in
    omega (arith, many)

pub returns-in-None-clause-same : goal.returns-in-None-clause-same
returns-in-None-clause-same c =
    let bs = c.self.inside.bindings.items in
    let x = c.args.name.now in
    let n = c.len-count.result in
    let all : length bs ≤ n = omega (arith, c.len-count.ensures) in
    subst (λ (γ : List Named). named (drop (length γ - n) γ) x ≡ named γ x) c.self.view_is (looked_at_all x n bs all)
