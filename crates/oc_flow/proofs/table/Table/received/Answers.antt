use Rattle.std.proofs.Common.{refl, map, ap, ◌∙◌, arith}
use Rattle.std.proofs.Math.ListN.{get_or}
use Rattle.oc_tree.specs.declared.tree.VarId.TheVariants.{Nv}
use Rattle.oc_flow.specs.Known.{number_in, received_at}
use Rattle.oc_flow.proofs.Marked.{marks_turn, marks_done}
use Rattle.oc_flow.proofs.table.Table.received.Goals as goal

pub loop-u-preserved : goal.loop-u-preserved
loop-u-preserved c =
    marks_turn c.args.self.now c.args.from.now c.loop-u.u-index (get_or c.args.from.now c.loop-u.u-index (Nv 0)) (Nv 0) c.loop-u.marks.items c.mark.new.marks.items (omega arith) refl
    c.loop-u.invariant c.mark.ensures

pub returns : goal.returns
returns c =
    let t = c.args.self.now in
    c.in_ok-received.ensures
    ∙ ap (λ vs. map (λ y. received_at c.as_slice.result.now (number_in t.variables y)) vs) c.variables-2.ensures
    ∙ ap (λ marks. map (λ y. received_at marks (number_in t.variables y)) t.variables) c.as_slice.ensures.value
    ∙ marks_done t c.args.from.now c.loop-u.u-index c.loop-u.marks.items (omega arith) c.loop-u.invariant
