use Rattle.std.proofs.Common.{refl}
use Rattle.oc_tree.specs.View.{expr_view}
use Rattle.oc_interpreter.specs.Seen.{completion_at}
use Rattle.oc_interpreter.proofs.Cutting.{as_before, element_from, in_store, on_err}
use Rattle.oc_interpreter.proofs.simple.assign_index.Goals as goal

pub returns-in_err-kind-in-Ok-clause-cut : goal.returns-in_err-kind-in-Ok-clause-cut
returns-in_err-kind-in-Ok-clause-cut c =
    let σ = c.args.store.now in
    on_err _ (element_from σ.events c.args.scope.now c.args.n c.args.name.now (expr_view c.args.index.now) (completion_at c.args.given σ) (in_store σ.events c.args.given σ (as_before σ σ refl)))
