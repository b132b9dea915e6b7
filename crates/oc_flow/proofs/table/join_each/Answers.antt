use Rattle.std.proofs.Common.{Vec, Global, ◌<◌, suc, length, ap, ◌∙◌, sym, subst, arith}
use Rattle.std.specs.Prelude.{Bool}
use Rattle.std.proofs.Math.Numerals.{add-one}
use Rattle.oc_flow.specs.Known.{cells_of, cell, Joined, JoinedTo}
use Rattle.oc_flow.proofs.Cells.{row_of, row_set, cells_height, joined_row, joined_not}
use Rattle.oc_flow.proofs.table.join_each.Goals.{then-at, else-at}
use Rattle.oc_flow.proofs.table.join_each.Goals as goal

pub loop-i-preserved : goal.loop-i-preserved
loop-i-preserved c =
    let i = c.loop-i.i in
    let m = c.args.number in
    let other = c.args.other.now in
    let old = cells_of c.args.rows.now.items in
    let now = c.loop-i.rows.items in
    let n = cells_height c.args.rows.now.items in
    let k = cells_height now in
    let same = c.loop-i.invariant.same in
    let h : i < length now = omega arith in
    let read = ap (λ r. cell (cells_of r) i m) (sym c.as_slice.ensures.value) ∙ sym c.at.ensures in
    elim c.if-at.branch [
      | then-at w ↦
          let row = row_of now i w.index_mut.result.now w.index_mut.result.now h w.index_mut.ensures.value in
          let e = ap (λ (v : Vec (Vec Bool Global) Global). cells_of v.items) w.rows-is ∙ row_set now i w.join_row.new.row in
          rw add-one (subst (λ new. JoinedTo (suc i) m other old new) (sym e)
          (joined_row i m other old (cells_of now) w.join_row.new.row.items (omega arith) (omega (arith, c.requires.number)) (omega (arith, c.requires.other)) c.loop-i.invariant (read ∙ w.if-at.true)
          (subst (λ r. Joined other r w.join_row.new.row.items) row w.join_row.ensures)))
      | else-at w ↦
          rw add-one (subst (λ (v : Vec (Vec Bool Global) Global). JoinedTo (suc i) m other old (cells_of v.items)) (sym w.rows-is)
          (joined_not i m other old (cells_of now) c.loop-i.invariant (read ∙ w.if-at.false)))
    ]
