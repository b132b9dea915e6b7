use Rattle.std.proofs.Common.{◌<◌, length, sym, subst, arith}
use Rattle.oc_tree.specs.declared.marked.Region.{Region}
use Rattle.oc_writes.proofs.inside.some_region_calls.Goals as goal

pub region_effects-requires : goal.region_effects-requires
region_effects-requires c =
    subst (λ (r : Region). r.function < length c.args.effects.now.program.functions) (sym c.region-item.is) (c.requires c.loop-region.region-index c.region-item.result (omega arith))
