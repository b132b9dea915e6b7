use Rattle.std.proofs.Common.{◌≡◌, drop}
use Rattle.std.specs.Prelude.{◌==◌, count_by}
use Rattle.std.specs.List.{list_all}
use Rattle.std.specs.Str.{bytes_eq}
use Rattle.oc_tree.specs.Names.{names_seen}
use Rattle.oc_types.proofs.times.Times.are_single.Given as goal

abbrev pub invariant-loop-name : goal.invariant-loop-name
invariant-loop-name l =
    list_all (λ x. count_by (bytes_eq x) l.self == 1) (names_seen (drop l.name-index l.names)) ≡ list_all (λ x. count_by (bytes_eq x) l.self == 1) (names_seen l.names)
