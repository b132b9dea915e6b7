use Rattle.std.proofs.Common.{refl}
use Rattle.oc_interpreter.proofs.Cutting.{as_before, begun_from, on_err}
use Rattle.oc_interpreter.proofs.marks.begin_use.Goals as goal

pub returns-in_err-copy-in-Some-clause-cut : goal.returns-in_err-copy-in-Some-clause-cut
returns-in_err-copy-in-Some-clause-cut c =
    let σ = c.args.store.now in
    on_err _ (begun_from σ.events c.args.uses.now c.args.n σ (as_before σ σ refl))
