use Rattle.std.proofs.Common.{◌≡◌, drop, map}
use Rattle.oc_tree.specs.View.{function_view, program_view}
use Rattle.oc_honest.specs.Timely.{set_of}
use Rattle.oc_judge.specs.Notes.{set_from}
use Rattle.oc_judge.proofs.notes.set_of.Given as goal

abbrev pub invariant-loop-function : goal.invariant-loop-function
invariant-loop-function l =
    (l.number ≡ l.function-index) × (set_from l.n l.function-index (map function_view (drop l.function-index l.function-items)) ≡ set_of (program_view l.program) l.n)
