use Rattle.std.proofs.Common.{◌≡◌, ◌++◌, drop, map}
use Rattle.oc_effects.specs.View.{effect_view}
use Rattle.oc_tree.specs.Members.{is_number_of}
use Rattle.oc_regcheck.specs.Code.{calls_in}
use Rattle.oc_regcheck.proofs.guard.add_calls.Given as goal

abbrev pub invariant-loop-effect : goal.invariant-loop-effect
invariant-loop-effect l =
    l.links.items ++ calls_in l.effects.program (is_number_of l.blocks) l.caller (map effect_view (drop l.effect-index l.statements))
    ≡ l.initial.links.items ++ calls_in l.effects.program (is_number_of l.blocks) l.caller (map effect_view l.statements)
