use Rattle.std.proofs.Common.{drop, ◌≡◌}
use Rattle.oc_tree.specs.Rules.{args_meet}
use Rattle.oc_tree.specs.View.{args_view, program_view}
use Rattle.oc_types.proofs.calls.args_meet.Given as goal

abbrev pub invariant-loop-i : goal.invariant-loop-i
invariant-loop-i l =
    args_meet (program_view l.top) l.scope (drop l.i l.params) (args_view (drop l.i l.args)) ≡ args_meet (program_view l.top) l.scope l.params (args_view l.args)
