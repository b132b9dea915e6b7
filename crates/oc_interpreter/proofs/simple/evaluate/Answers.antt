use Rattle.std.proofs.Common.{refl}
use Rattle.oc_tree.specs.View.{expr_view}
use Rattle.oc_meaning.specs.Eval.{value_of}
use Rattle.oc_meaning.specs.Exec.{Returned}
use Rattle.oc_interpreter.proofs.Cutting.{as_before, on_err, value_from}
use Rattle.oc_interpreter.proofs.simple.evaluate.Goals as goal

pub returns-in_err-kind-clause-cut : goal.returns-in_err-kind-clause-cut
returns-in_err-kind-clause-cut c =
    let σ = c.args.store.now in
    on_err _ (value_from σ.events (value_of c.args.scope.now σ (expr_view c.args.value.now)) c.args.n σ (λ v. Returned v σ) (as_before σ σ refl) (λ v. as_before σ σ refl))
