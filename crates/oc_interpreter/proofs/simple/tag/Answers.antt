use Rattle.std.proofs.Common.{refl}
use Rattle.oc_tree.specs.Tree.{consistent}
use Rattle.oc_interpreter.proofs.Cutting.{as_before, kind_from, on_err}
use Rattle.oc_interpreter.proofs.simple.tag.Goals as goal

pub returns-in_err-samples-clause-cut : goal.returns-in_err-samples-clause-cut
returns-in_err-samples-clause-cut c =
    let σ = c.args.store.now in
    on_err _ (kind_from σ.events c.args.run.now c.args.scope.now c.args.n (consistent c.args.name.now c.args.id) σ (as_before σ σ refl))

pub returns-in_err-home-clause-cut : goal.returns-in_err-home-clause-cut
returns-in_err-home-clause-cut c =
    let σ = c.args.store.now in
    on_err _ (kind_from σ.events c.args.run.now c.args.scope.now c.args.n (consistent c.args.name.now c.args.id) σ (as_before σ σ refl))
