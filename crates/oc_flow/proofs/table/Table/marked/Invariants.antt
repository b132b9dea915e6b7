use Rattle.std.proofs.Common.{◌≡◌, ◌++◌, map, drop}
use Rattle.oc_flow.specs.Known.{number_in, received_at}
use Rattle.oc_flow.proofs.table.Table.marked.Given as goal

abbrev pub invariant-loop-v : goal.invariant-loop-v
invariant-loop-v l =
    l.marked.items ++ map (λ y. received_at l.marks (number_in l.self.variables y)) (drop l.v-index l.variables) ≡ map (λ y. received_at l.marks (number_in l.self.variables y)) l.variables
