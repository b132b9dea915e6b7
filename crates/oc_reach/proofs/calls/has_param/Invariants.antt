use Rattle.std.proofs.Common.{◌≡◌, drop}
use Rattle.oc_tree.specs.Calls.{has_param}
use Rattle.oc_reach.proofs.calls.has_param.Given as goal

abbrev pub invariant-loop-param : goal.invariant-loop-param
invariant-loop-param l = has_param l.name (drop l.param-index l.params) ≡ has_param l.name l.params
