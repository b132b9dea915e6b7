use Rattle.std.proofs.Common.{◌≡◌, ◌<◌, map, ap, sym, subst, ◌∙◌}
use Rattle.oc_tree.specs.View.{function_view}
use Rattle.oc_tree.specs.Assigned.{param_count}
use Rattle.oc_reach.proofs.PassLaws.{mutable_below}
use Rattle.oc_types.proofs.lends.Lends.arg_assigned.Goals as goal

pub has-requires : goal.has-requires
has-requires c =
    let fs = map function_view c.self.inside.params in
    let b = mutable_below fs c.args.callee c.args.place c.in-Some.number (sym c.in-Some.ensures) in
    let n : c.self.inside.marks.1 ≡ param_count fs = c.self.invariant.2 ∙ ap (λ l. param_count (map function_view l)) (sym c.self.invariant.1) in
    subst (λ k. c.in-Some.number < k) (sym n) b
