use Rattle.std.proofs.Common.{◌≡◌, map, take}
use Rattle.oc_command.specs.Names.{policy_name}
use Rattle.oc_report.proofs.regions.names_of_policies.Given as goal

abbrev pub invariant-loop-policy : goal.invariant-loop-policy
invariant-loop-policy l = l.names.items ≡ map (policy_name l.marked.program) (take l.policy-index l.policy-items)
