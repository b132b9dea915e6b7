use Rattle.oc_top.proofs.Admitting.{built_images_are_not_refused, built_images_run}
use Rattle.oc_top.proofs.laws.built_images_run.Goals as goal

pub returns-clause-same : goal.returns-clause-same
returns-clause-same c = built_images_run c.built_images_are_admitted.ensures

pub returns-clause-passes : goal.returns-clause-passes
returns-clause-passes c = built_images_are_not_refused c.built_images_are_admitted.ensures
