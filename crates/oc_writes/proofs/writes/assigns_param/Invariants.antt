use Rattle.std.proofs.Common.{◌≡◌, drop}
use Rattle.std.specs.List.{list_any}
use Rattle.oc_tree.specs.declared.tree.VarId.TheVariants.{Param}
use Rattle.oc_writes.specs.Targets.{assigns}
use Rattle.oc_flow.specs.Known.{effects_seen}
use Rattle.oc_writes.proofs.writes.assigns_param.Given as goal

abbrev pub invariant-loop-effect : goal.invariant-loop-effect
invariant-loop-effect l =
    list_any (assigns l.through (Param l.index)) (effects_seen (drop l.effect-index l.effects)) ≡ list_any (assigns l.through (Param l.index)) (effects_seen l.effects)
