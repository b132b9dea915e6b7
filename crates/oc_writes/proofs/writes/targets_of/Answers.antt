use Rattle.std.proofs.Common.{◌<◌, length, sym, subst, arith}
use Rattle.oc_tree.specs.declared.marked.Region.{Region}
use Rattle.oc_writes.proofs.writes.targets_of.Goals as goal

pub region_targets-requires-clause-function : goal.region_targets-requires-clause-function
region_targets-requires-clause-function c =
    subst (λ (r : Region). r.function < length c.args.program.now.functions.items) (sym c.region-item.is) (c.requires.functions c.loop-region.region-index c.region-item.result (omega arith))
