use Rattle.oc_top.proofs.Building.{built}
use Rattle.oc_top.proofs.prepare.build_image.Goals as goal

pub returns-clause-built : goal.returns-clause-built
returns-clause-built c = built c.args.source.now c.in_ok-marked.marked c.in_ok-image.image c.in_ok-marked.ensures.marked c.in_ok-image.ensures.code c.in_ok-image.ensures.right
    c.in_ok-image.ensures.bounded
