use Rattle.std.proofs.Common.{[], map, ap, sym, ◌∙◌, arith}
use Rattle.std.proofs.lemmas.List.{length-map}
use Rattle.oc_effects.specs.View.{effect_view}
use Rattle.oc_flow.specs.Known.{brings_known, some_brings}
use Rattle.oc_flow.proofs.Added.{get_or_map}
use Rattle.oc_flow.proofs.Gathered.{gathers_turn, gathers_done, gathers_all}
use Rattle.oc_flow.proofs.inputs.input_variables.Goals as goal

pub loop-effect-preserved : goal.loop-effect-preserved
loop-effect-preserved c =
    let i = c.loop-effect.effect-index in
    let es = c.args.effects.now in
    let x = c.effect-item.result in
    let n = length-map es effect_view in
    gathers_turn (brings_known c.args.known.now) (map effect_view es) i (effect_view x) (effect_view x) [] c.loop-effect.brought.items c.add_brought.new.brought.items (omega arith)
    (ap effect_view c.effect-item.is ∙ sym (get_or_map effect_view es i x)) c.loop-effect.invariant c.in_ok-add_brought.ensures

pub returns : goal.returns
returns c =
    let ks = c.args.known.now in
    let es = c.args.effects.now in
    let n = length-map es effect_view in
    gathers_all (some_brings ks (map effect_view es)) c.loop-effect.brought.items
    (gathers_done (brings_known ks) (map effect_view es) c.loop-effect.effect-index [] c.loop-effect.brought.items (omega arith) c.loop-effect.invariant)
