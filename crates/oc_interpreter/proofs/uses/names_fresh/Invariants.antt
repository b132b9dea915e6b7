use Rattle.std.proofs.Common.{◌≡◌, drop}
use Rattle.std.specs.List.{list_any}
use Rattle.oc_meaning.specs.Uses.{is_fresh}
use Rattle.oc_tree.specs.Names.{names_seen}
use Rattle.oc_interpreter.proofs.uses.names_fresh.Given as goal

abbrev pub invariant-loop-name : goal.invariant-loop-name
invariant-loop-name l = list_any (is_fresh l.scope) (names_seen (drop l.name-index l.names)) ≡ list_any (is_fresh l.scope) (names_seen l.names)
