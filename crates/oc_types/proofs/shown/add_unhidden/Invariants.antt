use Rattle.std.proofs.Common.{◌≡◌, drop}
use Rattle.oc_tree.specs.Names.{names_seen}
use Rattle.oc_types.specs.Shown.{unhidden}
use Rattle.oc_types.proofs.shown.add_unhidden.Given as goal

abbrev pub invariant-loop-name : goal.invariant-loop-name
invariant-loop-name l =
    unhidden l.hidden (names_seen l.shown.items) (names_seen (drop l.name-index l.names)) ≡ unhidden l.hidden (names_seen l.initial.shown.items) (names_seen l.names)
