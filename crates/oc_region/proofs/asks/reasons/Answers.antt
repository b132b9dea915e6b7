use Rattle.std.proofs.Common.{◌≡◌, true, map, sym}
use Rattle.oc_tree.specs.Marked.{covers}
use Rattle.oc_region.specs.Views.{ask_reasons, ask_view, stretch_view}
use Rattle.oc_region.proofs.Reasons.{reason_more}
use Rattle.oc_region.proofs.asks.reasons.Goals as goal

pub loop-ask-preserved-in_ok-insert_number : goal.loop-ask-preserved-in_ok-insert_number
loop-ask-preserved-in_ok-insert_number c =
    let p = c.args.effects.now.program in
    let r = stretch_view c.args.r in
    let ask = c.in-Some.ask.now in
    let inside : covers p r ask.range.range.first ≡ true = sym c.if-covers.ensures in
    reason_more p r c.loop-ask.left.now c.in-Some.rest.now ask c.loop-ask.found.items c.insert_number.new.numbers.items (ask_reasons p (map ask_view c.args.asks.now) r)
    c.in-Some.ensures.cases.0 inside c.in_ok-insert_number.ensures c.loop-ask.invariant
