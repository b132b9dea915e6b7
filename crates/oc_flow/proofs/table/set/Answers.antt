use Rattle.std.proofs.Common.{length, ap, ◌∙◌, arith, refl}
use Rattle.std.specs.Prelude.{slice_set, true}
use Rattle.oc_flow.specs.Known.{cells_of}
use Rattle.oc_flow.proofs.Cells.{row_of, row_set, row_width}
use Rattle.oc_flow.proofs.table.set.Goals as goal

pub index_mut-requires-2 : goal.index_mut-requires-2
index_mut-requires-2 c =
    let l = row_width c.args.rows.now.items c.args.i (length c.args.rows.now.items) c.index_mut.result.now c.index_mut.result.now c.requires.row c.requires.square refl c.index_mut.ensures.value in
    omega (arith, l, c.requires.column)

pub returns : goal.returns
returns c =
    let r = c.args.rows.now.items in
    let e = row_of r c.args.i c.index_mut.result.now c.index_mut.result.now c.requires.row c.index_mut.ensures.value in
    record { cells = row_set r c.args.i _ ∙ ap (λ row. slice_set (cells_of r) c.args.i (slice_set row c.args.j true)) e }
