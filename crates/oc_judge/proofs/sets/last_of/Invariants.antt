use Rattle.std.proofs.Common.{◌≡◌, drop}
use Rattle.std.specs.Prelude.{find}
use Rattle.oc_steps.specs.Fold.{is_set}
use Rattle.oc_judge.specs.Ways.{sets_view}
use Rattle.oc_judge.proofs.sets.last_of.Given as goal

abbrev pub invariant-loop-instance : goal.invariant-loop-instance
invariant-loop-instance l = find (is_set l.set) (sets_view (drop l.instance-index l.sets)) ≡ find (is_set l.set) (sets_view l.sets)
