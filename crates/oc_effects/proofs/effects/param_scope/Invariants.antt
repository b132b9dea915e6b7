use Rattle.std.proofs.Common.{◌≡◌, ◌++◌, drop}
use Rattle.oc_tree.specs.Places.{param_variables}
use Rattle.oc_effects.proofs.effects.param_scope.Given as goal

abbrev pub invariant-loop-i : goal.invariant-loop-i
invariant-loop-i l = l.scope ++ param_variables l.i (drop l.i l.params) ≡ param_variables 0 l.params
