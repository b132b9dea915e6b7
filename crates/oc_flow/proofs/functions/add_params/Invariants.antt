use Rattle.std.proofs.Common.{◌≡◌, ◌++◌, ◌-◌, map}
use Rattle.oc_tree.specs.declared.tree.VarId.TheVariants.{Param}
use Rattle.oc_flow.specs.Variables.{from}
use Rattle.oc_flow.proofs.functions.add_params.Given as goal

abbrev pub invariant-loop-index : goal.invariant-loop-index
invariant-loop-index l = l.variables.items ++ map Param (from l.index (l.count - l.index)) ≡ l.fn.variables.items ++ map Param (from 0 l.count)
