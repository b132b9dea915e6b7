use Rattle.std.proofs.Common.{◌≡◌, ◌++◌, map, drop}
use Rattle.oc_region.specs.Views.{ask_range, ask_view, stretch_view}
use Rattle.oc_region.proofs.asks.asked_ranges.Given as goal

abbrev pub invariant-loop-ask : goal.invariant-loop-ask
invariant-loop-ask l = map stretch_view l.ranges.items ++ map ask_range (map ask_view (drop l.ask-index l.asks)) ≡ map ask_range (map ask_view l.asks)
