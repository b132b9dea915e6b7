use Rattle.std.proofs.Common.{◌≡◌, ◌++◌, drop, map}
use Rattle.std.specs.Prelude.{is_some}
use Rattle.oc_tree.specs.Calls.{place}
use Rattle.oc_types.proofs.uses.tests_of.Given as goal

abbrev pub invariant-loop-table : goal.invariant-loop-table
invariant-loop-table l =
    l.tests.items ++ map (λ names. is_some (place names l.name)) (drop l.table-index l.tables) ≡ map (λ names. is_some (place names l.name)) l.tables
