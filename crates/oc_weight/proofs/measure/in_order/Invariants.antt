use Rattle.std.proofs.Common.{◌≡◌, length, map}
use Rattle.oc_tree.specs.View.{function_view}
use Rattle.oc_weight.specs.Capped.{capped}
use Rattle.oc_weight.proofs.OrderTables.{IsWorked}
use Rattle.oc_weight.proofs.measure.in_order.Given as goal

abbrev pub invariant-loop-i : goal.invariant-loop-i
invariant-loop-i g l = record {
  many : length l.known.items ≡ length l.functions;
  worked : IsWorked capped (g.M.Measure.levels (map function_view l.functions)) l.order.0 l.known.items l.i;
}
