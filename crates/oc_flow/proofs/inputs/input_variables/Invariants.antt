use Rattle.std.proofs.Common.{[], map, take}
use Rattle.std.specs.List.{list_any}
use Rattle.oc_effects.specs.View.{effect_view}
use Rattle.oc_flow.specs.Known.{Gathers, brings_known}
use Rattle.oc_flow.proofs.inputs.input_variables.Given as goal

abbrev pub invariant-loop-effect : goal.invariant-loop-effect
invariant-loop-effect l = Gathers (λ v. list_any (λ e. brings_known l.known e v) (take l.effect-index (map effect_view l.effects))) [] l.brought.items
