use Rattle.std.proofs.Common.{arith, length, ap, refl}
use Rattle.std.specs.Prelude.{◌&&◌}
use Rattle.std.proofs.Math.ListN.{get_or}
use Rattle.oc_tree.specs.declared.tree.VarId.TheVariants.{Returned}
use Rattle.oc_effects.specs.View.{called_view, effect_view}
use Rattle.oc_flow.specs.Variables.{ends}
use Rattle.oc_flow.specs.Known.{leads_along, table_flows}
use Rattle.oc_flow.proofs.Added.{adds_done, adds_ends, adds_turn}
use Rattle.oc_flow.proofs.leads.leads_from.Goals as goal

pub loop-to-preserved : goal.loop-to-preserved
loop-to-preserved c =
    let k = c.args.callee.now in
    let a = effect_view c.args.effect.now in
    let d = called_view c.args.call.now in
    let x = get_or k.outer c.args.from Returned in
    let i = c.loop-to.to in
    let n = ap length c.outer-to-end.ensures in
    adds_turn (leads_along k a d x) k.outer i (get_or k.outer i Returned) Returned c.args.table.now c.loop-to.table c.leads_along.new.table (omega arith) refl c.loop-to.invariant c.leads_along.ensures

pub returns : goal.returns
returns c =
    let k = c.args.callee.now in
    let a = effect_view c.args.effect.now in
    let d = called_view c.args.call.now in
    let x = get_or k.outer c.args.from Returned in
    let n = ap length c.outer-to-end.ensures in
    adds_ends d x (λ y b. table_flows k.table x y && ends a d y b) k.outer c.args.table.now c.loop-to.table
    (adds_done (leads_along k a d x) k.outer c.loop-to.to c.args.table.now c.loop-to.table (omega arith) c.loop-to.invariant)
