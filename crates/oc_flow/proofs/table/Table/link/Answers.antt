use Rattle.std.proofs.Common.{◌≡◌, ap, ◌∙◌, sym}
use Rattle.std.specs.Prelude.{◌||◌, ◌&&◌, Some}
use Rattle.oc_flow.specs.Variables.{same_variable}
use Rattle.oc_flow.specs.Known.{TTable, linked, number_in, cells_of}
use Rattle.oc_flow.proofs.Cells.{link_set, link_not}
use Rattle.oc_flow.proofs.table.Table.link.Goals as goal

pub returns-in-Some-number-clause-links : goal.returns-in-Some-number-clause-links
returns-in-Some-number-clause-links c = λ a b ha hb.
    let vs = c.self.inside.numbering in
    let rows = cells_of c.self.inside.rows.items in
    let e = c.self.view_is in
    let u = c.args.u in
    let v = c.args.v in
    let hu : number_in vs u ≡ Some c.in-Some.i = ap (λ (t : TTable). number_in t.variables u) e ∙ sym c.number.ensures.number ∙ c.in-Some.is in
    let hv : number_in vs v ≡ Some c.in-Some-number.j = ap (λ (t : TTable). number_in t.variables v) e ∙ sym c.number-in-Some.ensures.number ∙ c.in-Some-number.is in
    ap (λ cells. linked (record { variables = vs; cells = cells }) a b) c.set.ensures.cells
    ∙ link_set vs rows u v c.in-Some.i c.in-Some-number.j c.self.invariant hu hv a b ha hb
    ∙ ap (λ (t : TTable). linked t a b || (same_variable a u && same_variable b v)) e

pub returns-in_default-number-clause-links : goal.returns-in_default-number-clause-links
returns-in_default-number-clause-links c = link_not c.args.self.now c.args.u c.args.v (λ i j e f. c.in_default-number.not-Some j (c.number-in-Some.ensures.number ∙ f))

pub returns-in_default-clause-links : goal.returns-in_default-clause-links
returns-in_default-clause-links c = link_not c.args.self.now c.args.u c.args.v (λ i j e f. c.in_default.not-Some i (c.number.ensures.number ∙ e))
