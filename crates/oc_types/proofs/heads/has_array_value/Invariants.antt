use Rattle.std.proofs.Common.{◌≡◌, drop}
use Rattle.std.specs.List.{list_any}
use Rattle.oc_tree.specs.Rules.{is_array_value}
use Rattle.oc_types.proofs.heads.has_array_value.Given as goal

abbrev pub invariant-loop-param : goal.invariant-loop-param
invariant-loop-param l =
    list_any is_array_value (drop l.param-index l.params) ≡ list_any is_array_value l.params
