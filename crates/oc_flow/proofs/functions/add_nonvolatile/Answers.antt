use Rattle.std.proofs.Common.{◌++◌, map, arith}
use Rattle.oc_tree.specs.declared.tree.VarId.TheVariants.{Nv}
use Rattle.oc_flow.specs.Variables.{from}
use Rattle.oc_flow.proofs.Built.{range_more}
use Rattle.oc_flow.proofs.functions.add_nonvolatile.Goals as goal

pub loop-index-preserved : goal.loop-index-preserved
loop-index-preserved c = range_more Nv c.loop-index.variables.items c.push.new.self.items (c.args.variables.now.items ++ map Nv (from 0 c.args.count)) c.loop-index.index
    c.args.count (omega arith) c.in_ok-push.ensures.items c.loop-index.invariant
