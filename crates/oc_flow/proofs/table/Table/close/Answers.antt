use Rattle.std.proofs.Common.{◌≡◌, ◌<◌, ◌-◌, ◌+◌, suc, ap, ◌∙◌, arith, length, subst}
use Rattle.std.proofs.Math.ListN.{get_or}
use Rattle.oc_tree.specs.declared.tree.VarId.TheVariants.{Nv}
use Rattle.oc_flow.specs.Known.{AreEntered, linked}
use Rattle.oc_flow.proofs.Cells.{closed_more}
use Rattle.oc_flow.proofs.table.Table.close.Goals as goal

pub loop-i-preserved : goal.loop-i-preserved
loop-i-preserved c =
    let i = c.loop-i.i in
    let count = length c.variables-count.result.now in
    let vs = c.args.self.now.variables in
    let same = c.loop-i.invariant.same in
    let known : count ≡ length vs = ap length c.variables-count.ensures in
    let below : i < count = omega arith in
    let place : (count - 1) - i ≡ count - (i + 1) = omega arith in
    let next : count - i ≡ suc (count - (i + 1)) = omega arith in
    let inside : count - (i + 1) < length vs = omega arith in
    let at : get_or c.variables.result.now ((count - 1) - i) (Nv 0) ≡ get_or vs (count - (i + 1)) (Nv 0) = ap (λ l. get_or l ((count - 1) - i) (Nv 0)) (c.variables.ensures ∙ same)
    ∙ ap (λ k. get_or vs k (Nv 0)) place in
    record {
      same = c.in_ok-through.ensures.variables ∙ same;
      links = closed_more (linked c.args.self.now) vs (count - (i + 1)) (count - i) (get_or c.variables.result.now ((count - 1) - i) (Nv 0)) (Nv 0) c.loop-i.self c.through.new.self
          same c.in_ok-through.ensures.variables inside next at c.loop-i.invariant.links c.in_ok-through.ensures.links;
      entered = subst (λ marks. AreEntered c.through.new.self.cells marks) c.as_slice-in-loop-i.ensures.value c.in_ok-through.ensures.entered;
    }
