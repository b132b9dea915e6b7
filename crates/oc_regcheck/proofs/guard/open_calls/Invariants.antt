use Rattle.std.proofs.Common.{◌≡◌}
use Rattle.std.specs.Prelude.{flat_map}
use Rattle.oc_effects.specs.Effects.{effects_at}
use Rattle.oc_flow.specs.Variables.{from}
use Rattle.oc_tree.specs.Members.{is_number_of}
use Rattle.oc_regcheck.specs.Code.{calls_in}
use Rattle.oc_regcheck.proofs.guard.open_calls.Given as goal

abbrev pub invariant-loop-caller : goal.invariant-loop-caller
invariant-loop-caller l =
    l.links.items ≡ flat_map (λ f. calls_in l.effects.program (is_number_of l.blocks) f (effects_at l.effects.program f)) (from 0 l.caller)
