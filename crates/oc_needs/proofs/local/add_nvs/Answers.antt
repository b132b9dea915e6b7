use Rattle.std.proofs.Common.{ap}
use Rattle.oc_tree.specs.declared.tree.VarId.TheVariants.{Nv}
use Rattle.oc_needs.proofs.Froms.{push_from_more}
use Rattle.oc_needs.proofs.local.add_nvs.Goals as goal

pub loop-i-preserved : goal.loop-i-preserved
loop-i-preserved c =
    push_from_more Nv c.loop-i.i c.args.variables.now.items c.loop-i.variables.items _ (Nv c.in_ok-index.index) c.loop-i.invariant c.in_ok-push.ensures.items (ap Nv c.in_ok-index.ensures)
