use Rattle.std.proofs.Common.{◌<◌, suc, length, ap, ◌∙◌, sym, subst, arith, refl, false}
use Rattle.std.specs.Prelude.{slice_set}
use Rattle.std.proofs.lemmas.List.{get_or_read}
use Rattle.std.proofs.Math.Numerals.{add-one}
use Rattle.oc_flow.specs.Known.{EnteredTo, IsSquare, Joined, cells_of}
use Rattle.oc_flow.proofs.Cells.{cells_height, row_of, row_width}
use Rattle.oc_flow.proofs.Entered.{entered_row}
use Rattle.oc_flow.proofs.table.entered_numbers.Goals as goal

pub join_row-requires : goal.join_row-requires
join_row-requires c =
    let rows = c.args.rows.now in
    let i = c.loop-i.i in
    let h : i < length rows = omega arith in
    ap length c.as_slice.ensures.value ∙ row_width rows i (length rows) c.index-rows-i.result c.index-rows-i.result h c.requires.square refl c.index-rows-i.is
    ∙ sym (c.loop-i.invariant.width ∙ cells_height rows)

pub loop-i-preserved : goal.loop-i-preserved
loop-i-preserved c =
    let held = c.args.rows.now in
    let rows = cells_of held in
    let i = c.loop-i.i in
    let n = cells_height held in
    let h : i < length held = omega arith in
    let old = c.loop-i.entered.items in
    let joined = c.join_row.new.row.items in
    let row = c.as_slice.ensures.value ∙ row_of held i c.index-rows-i.result c.index-rows-i.result h c.index-rows-i.is in
    let wide = c.loop-i.invariant.width in
    let own = get_or_read old i c.index-own.result.now (omega (arith, wide, n, h)) c.index-own.ensures false in
    rw add-one (subst (λ b. EnteredTo (suc i) rows (slice_set joined i b)) (sym own)
    (entered_row i rows old joined (subst (λ m. IsSquare m rows) (sym n) c.requires.square) (omega (arith, n, h)) c.loop-i.invariant
    (subst (λ r. Joined r old joined) row c.join_row.ensures)))
