use Rattle.std.proofs.Common.{◌≡◌, ◌++◌, map, drop}
use Rattle.oc_flow.specs.Known.{number_in}
use Rattle.oc_flow.proofs.table.Table.numbers.Given as goal

abbrev pub invariant-loop-v : goal.invariant-loop-v
invariant-loop-v l =
    l.numbers.items ++ map (number_in l.self.variables) (drop l.v-index l.variables) ≡ map (number_in l.self.variables) l.variables
