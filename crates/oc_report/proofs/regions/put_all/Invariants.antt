use Rattle.std.proofs.Common.{◌≡◌, drop, map}
use Rattle.oc_io.proofs.Going.{Going}
use Rattle.oc_tree.specs.Regions.{region_view}
use Rattle.oc_budget.specs.View.{budgets_view}
use Rattle.oc_report.specs.RegionLines.{region_lines}
use Rattle.oc_report.proofs.regions.put_all.Given as goal

abbrev pub invariant-loop-place : goal.invariant-loop-place
invariant-loop-place g l = record {
  calm : g.O.Sink.faults l.sink ≡ g.O.Sink.faults l.initial.sink;
  going : Going g.O.Sink.took l.initial.sink l.sink (region_lines l.marked (budgets_view l.budgets) l.place (map region_view (drop l.place l.region-items)))
      (region_lines l.marked (budgets_view l.budgets) 0 (map region_view l.region-items));
}
