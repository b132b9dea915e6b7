use Rattle.std.proofs.Common.{map, sym, ◌∙◌, length, arith}
use Rattle.oc_tree.specs.View.{function_view}
use Rattle.oc_weight.proofs.Levels.{next_level, no_level, settled}
use Rattle.oc_weight.proofs.measure.by_levels.Goals as goal

pub loop-depth-init : goal.loop-depth-init
loop-depth-init g c = c.new-known.ensures.items ∙ sym (no_level g.met.M.Measure.laws (map function_view c.args.functions.now))

pub loop-depth-preserved : goal.loop-depth-preserved
loop-depth-preserved g c =
    next_level g.met.M.Measure.laws (map function_view c.args.functions.now) c.loop-depth._depth c.as_slice.result.now c.in_ok-next.next.items
    (c.as_slice.ensures.value ∙ c.loop-depth.invariant) c.in_ok-next.ensures

pub returns-then-is_same : goal.returns-then-is_same
returns-then-is_same g c =
    settled g.met.M.Measure.laws (map function_view c.args.functions.now) c.loop-depth._depth (length c.args.functions.now) c.as_slice.result.now c.in_ok-next.next.items (omega arith)
    (c.as_slice.ensures.value ∙ c.loop-depth.invariant) c.in_ok-next.ensures
    (sym c.as_slice-in-loop-depth.ensures.value ∙ (c.is_same.ensures c.if-is_same.true ∙ (c.as_slice-in-loop-depth-2.ensures.value ∙ sym c.as_slice.ensures.value)))
