use Rattle.oc_judge.specs.Going.{program_of, regions_of}
use Rattle.oc_judge.specs.Passes.{Reaches}
use Rattle.oc_judge.specs.Ways.{KeepsRest, way_view}
use Rattle.oc_judge.proofs.way.go.Given as goal

-- Some steps on, the run went on to where it is now.
abbrev pub invariant-loop-step : goal.invariant-loop-step
invariant-loop-step l = record {
  reached : Reaches (program_of l.run) (regions_of l.run) (way_view l.initial.way) (way_view l.way);
  kept : KeepsRest (way_view l.initial.way) (way_view l.way);
}
