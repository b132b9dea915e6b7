use Rattle.std.proofs.Common.{arith, length, ap, refl}
use Rattle.std.proofs.Math.ListN.{get_or}
use Rattle.oc_tree.specs.declared.tree.VarId.TheVariants.{Returned}
use Rattle.oc_effects.specs.View.{called_view, effect_view}
use Rattle.oc_flow.specs.Known.{leads_from}
use Rattle.oc_flow.proofs.Added.{adds_done, adds_turn}
use Rattle.oc_flow.proofs.leads.leads_to_callee.Goals as goal

pub loop-from-preserved : goal.loop-from-preserved
loop-from-preserved c =
    let k = c.args.callee.now in
    let a = effect_view c.args.effect.now in
    let d = called_view c.args.call.now in
    let i = c.loop-from.from in
    let n = ap length c.outer-from-end.ensures in
    adds_turn (leads_from k a d) k.outer i (get_or k.outer i Returned) Returned c.args.table.now c.loop-from.table c.leads_from.new.table (omega arith) refl c.loop-from.invariant c.leads_from.ensures

pub returns : goal.returns
returns c =
    let k = c.args.callee.now in
    let a = effect_view c.args.effect.now in
    let d = called_view c.args.call.now in
    let n = ap length c.outer-from-end.ensures in
    adds_done (leads_from k a d) k.outer c.loop-from.from c.args.table.now c.loop-from.table (omega arith) c.loop-from.invariant
