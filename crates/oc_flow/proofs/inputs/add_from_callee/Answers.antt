use Rattle.std.proofs.Common.{length, ap, arith}
use Rattle.std.specs.Prelude.{◌&&◌}
use Rattle.oc_effects.specs.View.{called_view, effect_view}
use Rattle.oc_flow.specs.Variables.{ends}
use Rattle.oc_flow.specs.Known.{known_receives}
use Rattle.oc_flow.proofs.Gathered.{gathers_done}
use Rattle.oc_flow.proofs.inputs.add_from_callee.Goals as goal

pub returns : goal.returns
returns c =
    let k = c.args.callee.now in
    let a = effect_view c.args.effect.now in
    let d = called_view c.args.call.now in
    let n = ap length c.outer-y-items.ensures in
    gathers_done (λ y v. ends a d y v && known_receives k y) k.outer c.loop-y.y-index c.args.brought.now.items c.loop-y.brought.items (omega arith) c.loop-y.invariant
