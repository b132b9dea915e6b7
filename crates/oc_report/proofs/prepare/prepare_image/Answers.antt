use Rattle.std.proofs.lemmas.Result.{IfErr-weaker, IfOk-weaker, err_from_is_err_and}
use Rattle.oc_report.proofs.Executing.{not_loaded, not_run}
use Rattle.oc_report.proofs.Readying.{ready_for}
use Rattle.oc_report.proofs.prepare.prepare_image.Goals as goal

pub returns-in_err-image-clause-refused : goal.returns-in_err-image-clause-refused
returns-in_err-image-clause-refused g c =
    let p = err_from_is_err_and c.from_residual.result c.from_residual.ensures.1 in
    rw (p.1, p.2) (not_loaded _ _ _ (rw c.deref.ensures.value at c.in_err-image.ensures.refused))

pub returns-clause-ready : goal.returns-clause-ready
returns-clause-ready g c =
    IfOk-weaker c.set_up.result _ _ (λ p r. ready_for _ _ _ _ _ c.in_ok-image.image _ (rw c.deref.ensures.value at c.in_ok-image.ensures.admitted) r) c.set_up.ensures.ready

pub returns-clause-refused : goal.returns-clause-refused
returns-clause-refused g c =
    IfErr-weaker c.set_up.result _ _ (λ a r. not_run _ _ c.in_ok-image.image (rw c.deref.ensures.value at c.in_ok-image.ensures.admitted) a r) c.set_up.ensures.refused
