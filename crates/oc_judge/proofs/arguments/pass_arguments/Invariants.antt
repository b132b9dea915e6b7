use Rattle.std.proofs.Common.{◌≡◌, drop, map}
use Rattle.oc_tree.specs.View.{args_view}
use Rattle.oc_steps.specs.Ages.{join_ages}
use Rattle.oc_steps.specs.Sets.{args_by}
use Rattle.oc_judge.specs.Passing.{passed_view}
use Rattle.oc_meaning.proofs.Passings.{behind}
use Rattle.oc_judge.proofs.arguments.pass_arguments.Given as goal

-- What is passed so far, with what the arguments that are left pass, is the whole.
abbrev pub invariant-loop-arg : goal.invariant-loop-arg
invariant-loop-arg l =
    behind (map passed_view l.passed.items) (args_by join_ages l.scope l.store (args_view (drop l.arg-index l.args))) ≡ args_by join_ages l.scope l.store (args_view l.args)
