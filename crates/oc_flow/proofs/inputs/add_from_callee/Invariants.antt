use Rattle.std.proofs.Common.{take}
use Rattle.std.specs.Prelude.{◌&&◌}
use Rattle.std.specs.List.{list_any}
use Rattle.oc_effects.specs.View.{called_view, effect_view}
use Rattle.oc_flow.specs.Variables.{ends}
use Rattle.oc_flow.specs.Known.{Gathers, known_receives}
use Rattle.oc_flow.proofs.inputs.add_from_callee.Given as goal

abbrev pub invariant-loop-y : goal.invariant-loop-y
invariant-loop-y l = Gathers (λ v. list_any (λ y. ends (effect_view l.effect) (called_view l.call) y v && known_receives l.callee y) (take l.y-index l.callee.outer)) l.fn.brought.items l.brought.items
