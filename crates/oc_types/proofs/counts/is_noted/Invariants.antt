use Rattle.std.proofs.Common.{◌≡◌, drop}
use Rattle.std.specs.List.{list_any}
use Rattle.oc_tree.specs.Limits.{same_policy}
use Rattle.oc_types.proofs.counts.is_noted.Given as goal

abbrev pub invariant-loop-noted : goal.invariant-loop-noted
invariant-loop-noted l =
    list_any (same_policy l.policy) (drop l.noted-index l.policies) ≡ list_any (same_policy l.policy) l.policies
