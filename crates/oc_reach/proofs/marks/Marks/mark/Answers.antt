use Rattle.std.proofs.Common.{◌<◌, length, ap, sym, subst, ◌∙◌}
use Rattle.oc_reach.specs.Marked.{is_in}
use Rattle.oc_reach.proofs.Lists.{marked}
use Rattle.oc_reach.proofs.marks.Marks.mark.Goals as goal

pub invariant_of-self-then-not-index : goal.invariant_of-self-then-not-index
invariant_of-self-then-not-index c = λ w.
    let a = c.in_ok-push.ensures.items in
    let r = c.requires in
    let b = c.self.view_is in
    let h : c.args.number < length c.self.inside.seen.items = subst (λ p. c.args.number < p.1) (sym b) r in
    marked c.self.inside.seen.items c.self.inside.order.items c.args.number h c.self.invariant w ∙ ap (λ l. is_in l w) (sym a)
