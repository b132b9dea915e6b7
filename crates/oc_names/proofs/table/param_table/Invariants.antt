use Rattle.std.proofs.Common.{◌≡◌, ◌++◌, drop, map}
use Rattle.oc_tree.specs.Names.{names_seen}
use Rattle.oc_names.proofs.table.param_table.Given as goal

abbrev pub invariant-loop-param : goal.invariant-loop-param
invariant-loop-param l =
    names_seen l.names.items ++ map (λ p. p.name) (drop l.param-index l.params) ≡ map (λ p. p.name) l.params
