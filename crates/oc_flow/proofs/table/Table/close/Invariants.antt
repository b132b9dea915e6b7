use Rattle.std.proofs.Common.{◌≡◌, drop, ◌-◌}
use Rattle.oc_flow.specs.Flow.{chain}
use Rattle.oc_flow.specs.Known.{AreEntered, Links, linked}
use Rattle.oc_flow.proofs.table.Table.close.Given as goal

abbrev pub invariant-loop-i : goal.invariant-loop-i
invariant-loop-i l = record {
  same : l.self.variables ≡ l.fn.self.variables;
  links : Links l.self (λ a b. chain (linked l.fn.self) (drop (l.count - l.i) l.fn.self.variables) a b);
  entered : AreEntered l.self.cells l.entered.items;
}
