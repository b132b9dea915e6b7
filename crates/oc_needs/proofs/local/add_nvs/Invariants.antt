use Rattle.std.proofs.Common.{◌≡◌, ◌++◌, map}
use Rattle.oc_tree.specs.declared.tree.VarId.TheVariants.{Nv}
use Rattle.oc_flow.specs.Variables.{from}
use Rattle.oc_needs.proofs.local.add_nvs.Given as goal

abbrev pub invariant-loop-i : goal.invariant-loop-i
invariant-loop-i l = l.variables.items ≡ l.initial.variables.items ++ map Nv (from 0 l.i)
