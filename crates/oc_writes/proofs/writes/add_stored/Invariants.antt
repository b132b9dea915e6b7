use Rattle.std.proofs.Common.{◌≡◌, ◌++◌, drop}
use Rattle.oc_flow.specs.Known.{effects_seen}
use Rattle.oc_writes.specs.Seen.{stored_targets}
use Rattle.oc_writes.proofs.writes.add_stored.Given as goal

abbrev pub invariant-loop-stored : goal.invariant-loop-stored
invariant-loop-stored l =
    l.targets.items ++ stored_targets l.through (effects_seen l.effects) (drop l.stored-index l.all) ≡ l.initial.targets.items ++ stored_targets l.through (effects_seen l.effects) l.all
