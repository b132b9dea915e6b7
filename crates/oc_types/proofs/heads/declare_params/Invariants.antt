use Rattle.std.proofs.Common.{◌≡◌, drop}
use Rattle.oc_tree.specs.View.{program_view}
use Rattle.oc_tree.specs.Scope.{takes_param, with_params}
use Rattle.oc_types.proofs.heads.declare_params.Given as goal

abbrev pub invariant-loop-param : goal.invariant-loop-param
invariant-loop-param l = record {
  taken : takes_param (program_view l.top) l.scope (drop l.param-index l.params) ≡ takes_param (program_view l.top) l.initial.scope l.params;
  declared : with_params l.scope (drop l.param-index l.params) ≡ with_params l.initial.scope l.params;
}
