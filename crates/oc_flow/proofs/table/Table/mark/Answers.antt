use Rattle.std.proofs.Common.{◌≡◌, ◌<◌, [], length, ap, sym, subst, ◌∙◌}
use Rattle.std.proofs.Math.ListN.{get_or}
use Rattle.oc_flow.specs.Known.{TTable, MarkedRow, cells_of}
use Rattle.oc_flow.proofs.Cells.{row_of, row_width, cells_height}
use Rattle.oc_flow.proofs.Marked.{marks_more}
use Rattle.oc_flow.proofs.table.Table.mark.Goals as goal

pub mark_row-requires-clause-width : goal.mark_row-requires-clause-width
mark_row-requires-clause-width c =
    let rows = c.self.inside.rows.items in
    let n = length c.self.inside.numbering in
    let same = ap (λ (t : TTable). length t.variables) c.self.view_is in
    let height : length rows ≡ n = sym (cells_height rows) ∙ c.self.invariant.height in
    let below : c.in-Some.i < length rows = subst (λ k. c.in-Some.i < k) (sym (height ∙ same)) c.in-Some.ensures.below in
    ap length c.as_slice.ensures.value ∙ row_width rows c.in-Some.i n c.index.result.now c.index.result.now below c.self.invariant height c.index.ensures ∙ same ∙ sym c.requires

pub returns-in-Some : goal.returns-in-Some
returns-in-Some c = λ test m.
    let t = c.args.self.now in
    let i = c.in-Some.i in
    let rows = c.self.inside.rows.items in
    let same = ap (λ (t : TTable). length t.variables) c.self.view_is in
    let below : i < length rows = subst (λ k. i < k) (sym (sym (cells_height rows) ∙ c.self.invariant.height ∙ same)) c.in-Some.ensures.below in
    let row : c.as_slice.result.now ≡ get_or t.cells i [] =
    c.as_slice.ensures.value ∙ row_of rows i c.index.result.now c.index.result.now below c.index.ensures ∙ ap (λ (t : TTable). get_or t.cells i []) c.self.view_is in
    marks_more t c.args.u i c.args.marks.now.items c.mark_row.new.marks.items test (sym c.number.ensures.number ∙ c.in-Some.is)
    (subst (λ r. MarkedRow i r c.args.marks.now.items c.mark_row.new.marks.items) row c.mark_row.ensures) m
