use Rattle.std.proofs.Common.{◌≡◌, map, drop}
use Rattle.oc_effects.specs.View.{effect_view}
use Rattle.oc_needs.specs.Policies.{each_once}
use Rattle.oc_needs.specs.Code.{asked_by}
use Rattle.oc_needs.proofs.policy.add_all.Given as goal

abbrev pub invariant-loop-effect : goal.invariant-loop-effect
invariant-loop-effect l =
    each_once l.seen.items (asked_by l.function (map effect_view (drop l.effect-index l.effects))) ≡ each_once l.initial.seen.items (asked_by l.function (map effect_view l.effects))
