use Rattle.std.proofs.Common.{◌≡◌, ◌++◌, drop, map}
use Rattle.oc_tree.specs.View.{function_view}
use Rattle.oc_weight.specs.Capped.{capped}
use Rattle.oc_weight.proofs.measure.next_level.Given as goal

abbrev pub invariant-loop-function : goal.invariant-loop-function
invariant-loop-function g l =
    l.next.items ++ map (λ f. capped (g.M.Measure.measure (map function_view l.functions) l.known f)) (map function_view (drop l.function-index l.functions))
    ≡ map (λ f. capped (g.M.Measure.measure (map function_view l.functions) l.known f)) (map function_view l.functions)
