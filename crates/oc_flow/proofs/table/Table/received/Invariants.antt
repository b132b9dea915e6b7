use Rattle.std.proofs.Common.{take}
use Rattle.std.specs.List.{list_any}
use Rattle.oc_flow.specs.Known.{Marks, table_flows}
use Rattle.oc_flow.proofs.table.Table.received.Given as goal

abbrev pub invariant-loop-u : goal.invariant-loop-u
invariant-loop-u l = Marks l.self l.marks.items (λ y. list_any (λ u. table_flows l.self u y) (take l.u-index l.from))
