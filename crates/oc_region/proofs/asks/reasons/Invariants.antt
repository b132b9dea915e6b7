use Rattle.std.proofs.Common.{◌≡◌, map, length}
use Rattle.std.specs.Prelude.{flat_map}
use Rattle.oc_tree.specs.Samples.{union}
use Rattle.oc_region.specs.Views.{ask_reason, ask_reasons, ask_view, stretch_view}
use Rattle.oc_region.proofs.asks.reasons.Given as goal

abbrev pub invariant-loop-ask : goal.invariant-loop-ask
invariant-loop-ask l = union (flat_map (ask_reason l.effects.program (stretch_view l.r)) (map ask_view l.left)) l.found.items ≡ ask_reasons l.effects.program (map ask_view l.asks) (stretch_view l.r)

abbrev pub decreases-loop-ask : goal.decreases-loop-ask
decreases-loop-ask l = length l.left
