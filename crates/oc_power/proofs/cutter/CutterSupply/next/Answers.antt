use Rattle.std.proofs.Common.{◌+◌, ◌∙◌, ap, sym, arith}
use Rattle.oc_power.specs.Cutting.{Cutting}
use Rattle.oc_power.proofs.Pieces.{may_be_told, piece_told, row_told, told_within}
use Rattle.oc_power.proofs.cutter.CutterSupply.next.Goals as goal

pub overflow_sub-on : goal.overflow_sub-on
overflow_sub-on c = told_within c.self.inside.rows c.self.inside.place c.self.inside.told c.period-row.result c.period-row.ensures c.self.invariant.1

pub invariant_of-self : goal.invariant_of-self
invariant_of-self c =
    let was = c.self.inside in
    let told = told_within was.rows was.place was.told c.period-row.result c.period-row.ensures c.self.invariant.1 in
    (c.self.invariant.0, may_be_told was.rows was.place (was.told + was.len) c.period-row.result c.period-row.ensures (omega (arith, told, c.if-self-on.true)))

pub returns-then-self-on-clause-first : goal.returns-then-self-on-clause-first
returns-then-self-on-clause-first c =
    let was = c.self.inside in
    ap (λ (v : Cutting). v.left) (sym c.self.view_is)
    ∙ piece_told was.rows was.len was.told was.place c.period-row.result c.period-row.ensures c.self.invariant.0 c.if-self-on.true

pub returns-clause-first : goal.returns-clause-first
returns-clause-first c =
    let was = c.self.inside in
    ap (λ (v : Cutting). v.left) (sym c.self.view_is)
    ∙ row_told was.rows was.len was.told was.place c.period-row.result c.period-row.ensures c.self.invariant.0 c.if-self-on.false
