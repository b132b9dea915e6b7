use Rattle.std.proofs.Common.{refl}
use Rattle.oc_tree.specs.Tree.{emit}
use Rattle.oc_tree.specs.View.{expr_view}
use Rattle.oc_interpreter.proofs.Cutting.{as_before, kind_from, on_err}
use Rattle.oc_interpreter.proofs.simple.emit.Goals as goal

pub returns-in_err-kind-clause-cut : goal.returns-in_err-kind-clause-cut
returns-in_err-kind-clause-cut c =
    let σ = c.args.store.now in
    on_err _ (kind_from σ.events c.args.run.now c.args.scope.now c.args.n (emit c.args.port.now (expr_view c.args.value.now)) σ (as_before σ σ refl))

pub returns-in_err-number-in-Value-clause-cut : goal.returns-in_err-number-in-Value-clause-cut
returns-in_err-number-in-Value-clause-cut c =
    let σ = c.args.store.now in
    on_err _ (kind_from σ.events c.args.run.now c.args.scope.now c.args.n (emit c.args.port.now (expr_view c.args.value.now)) σ (as_before σ σ refl))
