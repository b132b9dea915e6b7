use Rattle.std.proofs.Common.{◌≡◌, drop}
use Rattle.std.specs.List.{list_any}
use Rattle.oc_tree.specs.Marked.{is_in_region}
use Rattle.oc_tree.specs.Regions.{region_view}
use Rattle.oc_effects.specs.View.{effect_view}
use Rattle.oc_writes.specs.Seen.{stands_in}
use Rattle.oc_writes.proofs.inside.stands_in.Given as goal

abbrev pub invariant-loop-s : goal.invariant-loop-s
invariant-loop-s l =
    list_any (is_in_region l.effects.program (region_view l.region)) (drop l.s-index l.s-items) ≡ stands_in l.effects.program (region_view l.region) (effect_view l.effect)
