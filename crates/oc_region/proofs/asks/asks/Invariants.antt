use Rattle.std.proofs.Common.{◌≡◌, ◌++◌, map, drop}
use Rattle.oc_needs.specs.View.{requirement_view}
use Rattle.oc_region.specs.Views.{ask_view, asks}
use Rattle.oc_region.proofs.asks.asks.Given as goal

abbrev pub invariant-loop-requirement : goal.invariant-loop-requirement
invariant-loop-requirement l = map ask_view l.asks.items ++ asks l.grouped.program l.grouped.groups (map requirement_view (drop l.requirement-index l.required))
    ≡ asks l.grouped.program l.grouped.groups (map requirement_view l.required)
