use Rattle.std.proofs.Common.{◌≡◌, ◌<◌, Some, ap, ◌∙◌, sym, length, arith}
use Rattle.std.specs.Prelude.{◌||◌}
use Rattle.std.proofs.Math.ListN.{get_or}
use Rattle.std.proofs.lemmas.Bool.{eq-eqb}
use Rattle.oc_tree.specs.declared.tree.VarId.TheVariants.{Returned}
use Rattle.oc_flow.specs.Known.{TKnown, cell, number_in, table_flows}
use Rattle.oc_flow.proofs.ByNumbers.{flows_by, number_read}
use Rattle.oc_flow.proofs.Numbers.{number_below}
use Rattle.oc_flow.proofs.known.Known.flows_at.Goals as goal

pub has-requires-clause-row : goal.has-requires-clause-row
has-requires-clause-row c =
    let vs = c.self.inside.table.variables in
    let outer = c.self.inside.outer.items in
    let i = c.args.i in
    let m = c.in-Some-Some.m in
    let same = ap (λ (k : TKnown). length k.outer) c.self.view_is in
    let few : i < length outer = omega (arith, same, c.requires.i) in
    number_below vs (get_or outer i Returned) m (number_read vs outer c.self.inside.numbers.items i m c.index.result.now c.self.invariant few c.index.ensures c.in-Some-Some.is-0)

pub has-requires-clause-column : goal.has-requires-clause-column
has-requires-clause-column c =
    let vs = c.self.inside.table.variables in
    let outer = c.self.inside.outer.items in
    let j = c.args.j in
    let n = c.in-Some-Some.n in
    let same = ap (λ (k : TKnown). length k.outer) c.self.view_is in
    let few : j < length outer = omega (arith, same, c.requires.j) in
    number_below vs (get_or outer j Returned) n (number_read vs outer c.self.inside.numbers.items j n c.index-2.result.now c.self.invariant few c.index-2.ensures c.in-Some-Some.is-1)

pub returns-then-m-n : goal.returns-then-m-n
returns-then-m-n c =
    let t = c.self.inside.table in
    let outer = c.self.inside.outer.items in
    let numbers = c.self.inside.numbers.items in
    let i = c.args.i in
    let j = c.args.j in
    let m = c.in-Some-Some.m in
    let n = c.in-Some-Some.n in
    let same = ap (λ (k : TKnown). length k.outer) c.self.view_is in
    let few : i < length outer = omega (arith, same, c.requires.i) in
    let less : j < length outer = omega (arith, same, c.requires.j) in
    let hm = number_read t.variables outer numbers i m c.index.result.now c.self.invariant few c.index.ensures c.in-Some-Some.is-0 in
    let hn = number_read t.variables outer numbers j n c.index-2.result.now c.self.invariant less c.index-2.ensures c.in-Some-Some.is-1 in
    let alike = eq-eqb m n c.if-m-n.true in
    alike
    ∙ sym (ap (λ b. b || cell t.cells m n) alike)
    ∙ flows_by t (get_or outer i Returned) (get_or outer j Returned) m n hm hn
    ∙ ap (λ (k : TKnown). table_flows k.table (get_or k.outer i Returned) (get_or k.outer j Returned)) c.self.view_is
