use Rattle.std.proofs.Common.{◌≡◌, ◌++◌, drop, map}
use Rattle.oc_tree.specs.View.{function_view}
use Rattle.oc_tree.specs.Calls.{body_calls, called_places}
use Rattle.oc_reach.specs.Marked.{rows}
use Rattle.oc_weight.proofs.called.callees_of.Given as goal

abbrev pub invariant-loop-function : goal.invariant-loop-function
invariant-loop-function l =
    rows l.callees.items ++ map (λ f. called_places l.table (body_calls f)) (map function_view (drop l.function-index l.functions))
    ≡ map (λ f. called_places l.table (body_calls f)) (map function_view l.functions)
