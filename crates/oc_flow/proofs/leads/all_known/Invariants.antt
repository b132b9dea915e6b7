use Rattle.std.proofs.Common.{◌≡◌, map, drop}
use Rattle.std.specs.List.{list_all}
use Rattle.oc_effects.specs.View.{effect_view}
use Rattle.oc_flow.specs.Known.{is_ready}
use Rattle.oc_flow.proofs.leads.all_known.Given as goal

abbrev pub invariant-loop-effect : goal.invariant-loop-effect
invariant-loop-effect l = list_all (λ e. is_ready l.known e.call) (map effect_view (drop l.effect-index l.effects)) ≡ list_all (λ e. is_ready l.known e.call) (map effect_view l.effects)
