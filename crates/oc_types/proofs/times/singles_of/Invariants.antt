use Rattle.std.proofs.Common.{◌≡◌, ℕ, List, None, drop}
use Rattle.oc_tree.specs.Names.{named_in, names_seen}
use Rattle.oc_types.specs.Times.{times_on}
use Rattle.oc_types.proofs.times.singles_of.Given as goal

abbrev pub invariant-loop-name : goal.invariant-loop-name
invariant-loop-name l = (x : List ℕ) → times_on x (named_in l.singles x) (names_seen (drop l.name-index l.names)) ≡ times_on x None (names_seen l.names)
