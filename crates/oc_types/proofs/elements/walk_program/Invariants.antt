use Rattle.std.proofs.Common.{◌≡◌, ◌≤◌, drop}
use Rattle.oc_tree.specs.View.{program_view}
use Rattle.oc_types.specs.Small.{IsSmall}
use Rattle.oc_types.specs.Walk.{order_walk, program_walk}
use Rattle.oc_types.proofs.elements.walk_program.Given as goal

abbrev pub invariant-loop-decl : goal.invariant-loop-decl
invariant-loop-decl l = record {
  found : order_walk (program_view l.top) l.before l.counts (drop l.decl-index l.order) ≡ program_walk (program_view l.top);
  small : IsSmall l.counts;
  sensors : l.before.sensors ≤ l.decl-index;
  ports : l.before.ports ≤ l.decl-index;
  nvs : l.before.nvs ≤ l.decl-index;
  functions : l.before.functions ≤ l.decl-index;
}
