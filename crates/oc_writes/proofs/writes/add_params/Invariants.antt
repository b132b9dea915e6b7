use Rattle.std.proofs.Common.{◌≡◌, ◌++◌, drop}
use Rattle.oc_flow.specs.Known.{effects_seen}
use Rattle.oc_writes.specs.Seen.{slot_targets}
use Rattle.oc_writes.proofs.writes.add_params.Given as goal

abbrev pub invariant-loop-param : goal.invariant-loop-param
invariant-loop-param l =
    l.targets.items ++ slot_targets l.through (effects_seen l.effects) l.slot (drop l.param-index l.params) ≡ l.initial.targets.items ++ slot_targets l.through (effects_seen l.effects) 0 l.params
