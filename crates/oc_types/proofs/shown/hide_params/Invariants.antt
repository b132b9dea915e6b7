use Rattle.std.proofs.Common.{◌≡◌, drop}
use Rattle.oc_types.specs.Shown.{hiding_params}
use Rattle.oc_types.proofs.shown.hide_params.Given as goal

abbrev pub invariant-loop-param : goal.invariant-loop-param
invariant-loop-param l =
    hiding_params l.hidden (drop l.param-index l.params) ≡ hiding_params l.initial.hidden l.params
