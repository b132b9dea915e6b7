use Rattle.std.proofs.Common.{◌≡◌, ◌<◌, Some, ap, ◌∙◌, sym, subst, length, arith}
use Rattle.std.specs.Prelude.{◌||◌, ◌&&◌}
use Rattle.oc_flow.specs.Known.{AreEntered, TTable, cells_of, linked, number_in}
use Rattle.oc_flow.proofs.Cells.{link_through}
use Rattle.oc_flow.proofs.Entered.{entered_kept}
use Rattle.oc_flow.proofs.table.Table.through.Goals as goal

pub returns-in_ok-join_through-clause-links : goal.returns-in_ok-join_through-clause-links
returns-in_ok-join_through-clause-links c = λ a b ha hb.
    let vs = c.self.inside.numbering in
    let w = c.args.w in
    let hw : number_in vs w ≡ Some c.in-Some.k = ap (λ (t : TTable). number_in t.variables w) c.self.view_is ∙ sym c.number.ensures.number ∙ c.in-Some.is in
    link_through vs (cells_of c.self.inside.rows.items) (cells_of c.join_through.new.rows.items) w c.in-Some.k c.self.invariant.height hw c.in_ok-join_through.ensures.cells a b ha hb
    ∙ ap (λ (t : TTable). linked t a b || (linked t a w && linked t w b)) c.self.view_is

pub returns-in_ok-join_through-clause-entered : goal.returns-in_ok-join_through-clause-entered
returns-in_ok-join_through-clause-entered c =
    let marks = c.args.entered.now in
    let same = ap (λ (t : TTable). length t.variables) c.self.view_is in
    let height = c.self.invariant.height in
    let below = c.in-Some.ensures.below in
    entered_kept c.in-Some.k (cells_of c.self.inside.rows.items) (cells_of c.join_through.new.rows.items) marks (omega (arith, same, height, below)) c.in_ok-join_through.ensures.cells
    (subst (λ (t : TTable). AreEntered t.cells marks) (sym c.self.view_is) c.requires.entered)
