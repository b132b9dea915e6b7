use Rattle.std.proofs.Common.{◌≡◌, ℕ, List, drop}
use Rattle.oc_tree.specs.Calls.{place, place_from}
use Rattle.std.specs.Option.{option_or}
use Rattle.oc_names.specs.Entries.{number_in}
use Rattle.oc_tree.specs.Names.{names_seen}
use Rattle.oc_names.proofs.table.numbers_of.Given as goal

abbrev pub invariant-loop-i : goal.invariant-loop-i
invariant-loop-i l = (x : List ℕ) → option_or (number_in l.numbers x) (place_from l.i (names_seen (drop l.i l.names)) x) ≡ place (names_seen l.names) x
