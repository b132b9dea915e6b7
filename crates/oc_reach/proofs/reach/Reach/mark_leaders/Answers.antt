use Rattle.std.proofs.Common.{◌≡◌, ◌<◌, ◌≤◌, ◌||◌, length, ap, sym, subst, ◌∙◌, true, arith}
use Rattle.std.proofs.Math.ListN.{get_or}
use Rattle.oc_tree.specs.Reach.{linked}
use Rattle.oc_reach.specs.Marked.{is_in}
use Rattle.oc_reach.proofs.Lists.{in_all, at_all, length_all}
use Rattle.oc_reach.proofs.Rows.{row_is}
use Rattle.oc_reach.proofs.reach.Reach.mark_leaders.Goals as goal

pub mark_all-requires : goal.mark_all-requires
mark_all-requires c = λ v k.
    let r = c.self.inside.leaders.items in
    let number : c.args.number < length r = subst (λ p. c.args.number < p.1) (sym c.self.view_is) c.requires.number in
    let row = row_is r c.args.number c.as_slice.result.now c.index.result.now number c.index.ensures c.as_slice.ensures.value in
    let l = sym (c.self.invariant.1 v c.args.number) ∙ subst (λ x. is_in x v ≡ true) row k in
    let small : v < length r = (c.self.invariant.0 v c.args.number l).0 in
    let n : length r ≡ c.args.self.now.1 = ap (λ p. p.1) c.self.view_is in
    omega (arith, small, n, c.requires.bound)

pub returns-clause-old : goal.returns-clause-old
returns-clause-old c = λ j h.
    ap (λ p. get_or p.0 j 0) c.in_ok-mark_all.ensures ∙ at_all c.as_slice.result.now c.args.marks.now.0 j h

pub returns-clause-more : goal.returns-clause-more
returns-clause-more c =
    subst (λ p. length c.args.marks.now.0 ≤ length p.0) (sym c.in_ok-mark_all.ensures) (length_all c.as_slice.result.now c.args.marks.now.0)

pub returns-clause-marked : goal.returns-clause-marked
returns-clause-marked c = λ u.
    let r = c.self.inside.leaders.items in
    let xs = c.args.marks.now.0 in
    let number : c.args.number < length r = subst (λ p. c.args.number < p.1) (sym c.self.view_is) c.requires.number in
    let row = row_is r c.args.number c.as_slice.result.now c.index.result.now number c.index.ensures c.as_slice.ensures.value in
    let links : linked c.self.inside.links.items u c.args.number ≡ linked c.args.self.now.0 u c.args.number = ap (λ p. linked p.0 u c.args.number) c.self.view_is in
    let l : is_in c.as_slice.result.now u ≡ linked c.args.self.now.0 u c.args.number = ap (λ x. is_in x u) row ∙ c.self.invariant.1 u c.args.number ∙ links in
    ap (λ p. is_in p.0 u) c.in_ok-mark_all.ensures ∙ in_all c.as_slice.result.now xs u ∙ ap (λ b. is_in xs u || b) l
