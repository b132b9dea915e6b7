use Rattle.std.proofs.Common.{length, ap, ◌∙◌, refl}
use Rattle.oc_flow.proofs.Cells.{row_width}
use Rattle.oc_flow.proofs.table.join_through.Goals as goal

pub join_each-requires-clause-other : goal.join_each-requires-clause-other
join_each-requires-clause-other c =
    ap length c.as_slice-3.ensures.value ∙ ap length c.in_ok-other.ensures ∙ ap length c.as_slice-2.ensures.value
    ∙ row_width c.args.rows.now.items c.args.number (length c.args.rows.now.items) c.index-2.result.now c.index-2.result.now c.requires.number c.requires.square refl c.index-2.ensures
