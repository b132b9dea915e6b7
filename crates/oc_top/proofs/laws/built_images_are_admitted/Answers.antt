use Rattle.oc_top.proofs.Admitting.{built_images_are_admitted}
use Rattle.oc_top.proofs.laws.built_images_are_admitted.Goals as goal

pub returns : goal.returns
returns c = built_images_are_admitted c.marked_images_break_no_rule.ensures c.marked_images_fit_files.ensures c.images_are_small.ensures
