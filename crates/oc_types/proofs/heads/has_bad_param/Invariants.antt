use Rattle.std.proofs.Common.{◌≡◌, drop}
use Rattle.std.specs.List.{list_any}
use Rattle.oc_tree.specs.Rules.{has_bad_length}
use Rattle.oc_types.proofs.heads.has_bad_param.Given as goal

abbrev pub invariant-loop-param : goal.invariant-loop-param
invariant-loop-param l =
    list_any (λ q. has_bad_length q.kind) (drop l.param-index l.params) ≡ list_any (λ q. has_bad_length q.kind) l.params
