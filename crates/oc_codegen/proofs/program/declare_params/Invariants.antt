use Rattle.std.proofs.Common.{◌≡◌, drop}
use Rattle.oc_code.specs.Scope.{params_scope}
use Rattle.oc_codegen.proofs.program.declare_params.Given as goal

abbrev pub invariant-loop-param : goal.invariant-loop-param
invariant-loop-param l = record {
  scope : params_scope (drop l.param-index l.params) l.s l.scope ≡ params_scope l.params 0 l.initial.scope;
  slot : l.s ≡ l.param-index;
}
