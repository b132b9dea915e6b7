use Rattle.std.proofs.Common.{length, arith, refl}
use Rattle.oc_flow.proofs.Cells.{row_width}
use Rattle.oc_flow.proofs.table.at.Goals as goal

pub index-requires : goal.index-requires
index-requires c =
    let l = row_width c.args.rows.now c.args.i (length c.args.rows.now) c.index-rows-i.result c.index-rows-i.result c.requires.row c.requires.square refl c.index-rows-i.is in
    omega (arith, l, c.requires.column)
