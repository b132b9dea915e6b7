use Rattle.std.proofs.Common.{◌≡◌, ◌++◌, drop}
use Rattle.oc_tree.specs.Names.{names_seen}
use Rattle.oc_effects.specs.Effects.{variables_at}
use Rattle.oc_effects.specs.Walk.{placed_view}
use Rattle.oc_effects.proofs.here.variables.Given as goal

abbrev pub invariant-loop-name : goal.invariant-loop-name
invariant-loop-name l =
    l.found.items ++ variables_at l.here.known.now (placed_view l.here) (names_seen (drop l.name-index l.names)) ≡ variables_at l.here.known.now (placed_view l.here) (names_seen l.names)
