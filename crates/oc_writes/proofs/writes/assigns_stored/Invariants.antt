use Rattle.std.proofs.Common.{◌≡◌, drop}
use Rattle.oc_flow.specs.Known.{effects_seen}
use Rattle.oc_writes.specs.Seen.{some_assigns}
use Rattle.oc_writes.proofs.writes.assigns_stored.Given as goal

abbrev pub invariant-loop-effect : goal.invariant-loop-effect
invariant-loop-effect l =
    some_assigns l.through (effects_seen (drop l.effect-index l.effects)) l.stored ≡ some_assigns l.through (effects_seen l.effects) l.stored
