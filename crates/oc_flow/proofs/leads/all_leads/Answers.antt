use Rattle.std.proofs.Common.{map, ap, sym, ◌∙◌, arith}
use Rattle.std.proofs.lemmas.List.{length-map}
use Rattle.oc_effects.specs.View.{effect_view}
use Rattle.oc_flow.specs.Known.{leads_known}
use Rattle.oc_flow.proofs.Added.{adds_turn, get_or_map}
use Rattle.oc_flow.proofs.leads.all_leads.Goals as goal

pub loop-effect-preserved : goal.loop-effect-preserved
loop-effect-preserved c =
    let i = c.loop-effect.effect-index in
    let es = c.args.effects.now in
    let x = c.effect-item.result in
    let n = length-map es effect_view in
    adds_turn (leads_known c.args.known.now) (map effect_view es) i (effect_view x) (effect_view x) c.args.table.now c.loop-effect.table c.effect_leads.new.table (omega arith)
    (ap effect_view c.effect-item.is ∙ sym (get_or_map effect_view es i x)) c.loop-effect.invariant c.effect_leads.ensures
