use Rattle.std.proofs.Common.{◌≡◌, map}
use Rattle.oc_tree.specs.View.{function_view}
use Rattle.oc_weight.specs.Capped.{capped}
use Rattle.oc_weight.proofs.measure.by_levels.Given as goal

abbrev pub invariant-loop-depth : goal.invariant-loop-depth
invariant-loop-depth g l = l.known.items ≡ map capped (g.M.Measure.levels (map function_view l.functions) l._depth)
