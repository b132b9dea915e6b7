use Rattle.std.proofs.Common.{◌≡◌, drop}
use Rattle.std.specs.List.{list_any}
use Rattle.oc_tree.specs.Marked.{is_in_region}
use Rattle.oc_region.specs.Views.{stretch_view, is_within}
use Rattle.oc_region.proofs.places.is_within.Given as goal

abbrev pub invariant-loop-t : goal.invariant-loop-t
invariant-loop-t l = list_any (is_in_region l.effects.program (stretch_view l.r)) (drop l.t-index l.t-items) ≡ is_within l.effects.program (stretch_view l.r) l.s
