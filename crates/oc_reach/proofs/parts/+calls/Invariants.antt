use Rattle.std.proofs.Common.{◌≡◌, ◌++◌, drop}
use Rattle.oc_tree.specs.View.{args_view}
use Rattle.oc_tree.specs.Calls.{args_calls}
use Rattle.oc_reach.specs.Views.{calls_seen}
use Rattle.oc_reach.proofs.parts.+calls.Given as goal

abbrev pub invariant-call_calls-loop-arg : goal.invariant-call_calls-loop-arg
invariant-call_calls-loop-arg l =
    calls_seen l.calls.items ++ args_calls (args_view (drop l.arg-index l.arg-items)) ≡ calls_seen l.initial.calls.items ++ args_calls (args_view l.arg-items)
