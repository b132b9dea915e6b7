use Rattle.std.proofs.Common.{◌≡◌, ◌++◌, drop}
use Rattle.oc_tree.specs.Names.{names_seen}
use Rattle.oc_types.proofs.top.names_table.Given as goal

abbrev pub invariant-loop-name : goal.invariant-loop-name
invariant-loop-name l =
    names_seen l.seen.items ++ drop l.name-index l.names ≡ l.names
