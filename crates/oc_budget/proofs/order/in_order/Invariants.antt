use Rattle.std.proofs.Common.{◌≡◌, length}
use Rattle.oc_tree.specs.Costs.{costs_to}
use Rattle.oc_weight.proofs.OrderTables.{IsWorked}
use Rattle.oc_budget.specs.Costs.{is_use}
use Rattle.oc_budget.proofs.CalleeLaws.{whole}
use Rattle.oc_budget.proofs.order.in_order.Given as goal

abbrev pub invariant-loop-i : goal.invariant-loop-i
invariant-loop-i l = record {
  many : length l.costs.items ≡ length l.known.program.functions;
  worked : IsWorked whole (costs_to l.known.program.functions (is_use l.known.program) l.known.regions) l.order.0 l.costs.items l.i;
}
