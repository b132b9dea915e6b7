use Rattle.std.proofs.Common.{rules, ◌≡◌, ◌<◌, ◌≤◌, ◌-◌, ℕ, true, false, nat_eq, length, take, refl, sym, ap, subst, ◌∙◌, arith}
use Rattle.std.proofs.Math.ListN.{get_or}
use Rattle.std.proofs.lemmas.List.{take_all, take_more}
use Rattle.std.proofs.lemmas.Bool.{eq-eqb, eqb-true, or_left, or_right}
use Rattle.oc_tree.specs.Reach.{linked}
use Rattle.oc_tree.proofs.ReachLaws.{or_elim}
use Rattle.oc_reach.specs.Marked.{is_in, rows}
use Rattle.oc_reach.proofs.Lists.{in_add, in_at, is_in_push}
use Rattle.oc_weight.specs.Order.{IsBegun, row_links}
use Rattle.oc_weight.proofs.OrderLaws.{begun_more, links_of, one_deeper}
use Rattle.oc_weight.proofs.called.+mark_behind.Goals as goal

pub mark_behind-requires : goal.mark_behind-requires
mark_behind-requires t c =
    let r = c.args.callees.now in
    let row = c.deref-callee-items.result.now in
    let x = get_or row c.loop-callee.callee-index 0 in
    let at : c.index-callees-number.result ≡ get_or r c.args.number c.index-callees-number.result = search rules in
    let link = links_of r c.args.number c.index-callees-number.result row c.requires.number at c.deref-callee-items.ensures.value x ∙ in_at row c.loop-callee.callee-index c.loop-callee-test.true in
    let smaller : c.args.depth - 1 < t = search rules in
    (smaller, (c.requires.within, ((c.requires.within c.args.number x link).1, (c.loop-callee.invariant.bound ∙ c.requires.bound, c.loop-callee.invariant.begun))))

pub returns-then-not-branch-clause-deep : goal.returns-then-not-branch-clause-deep
returns-then-not-branch-clause-deep t c = λ e none.
    let r = c.args.callees.now in
    let row = c.deref-callee-items.result.now in
    let x = get_or row c.loop-callee.callee-index 0 in
    let at : c.index-callees-number.result ≡ get_or r c.args.number c.index-callees-number.result = search rules in
    let link = links_of r c.args.number c.index-callees-number.result row c.requires.number at c.deref-callee-items.ensures.value x ∙ in_at row c.loop-callee.callee-index c.loop-callee-test.true in
    let off : c.in_ok-mark_behind.field-0 ≡ false = search rules in
    let some : 0 < c.args.depth = omega arith in
    omega (arith, some, one_deeper (row_links 0 (rows r)) (length r) c.args.number x (c.args.depth - 1) c.requires.within link none (c.in_ok-mark_behind.ensures.deep off none))

pub loop-callee-preserved : goal.loop-callee-preserved
loop-callee-preserved t c =
    let row = c.deref-callee-items.result.now in
    let i = c.loop-callee.callee-index in
    let x = get_or row i 0 in
    let new = c.mark_behind.new.marks.0 in
    let on : c.in_ok-mark_behind.field-0 ≡ true = search rules in
    record {
      bound = c.in_ok-mark_behind.ensures.bound ∙ c.loop-callee.invariant.bound;
      begun = c.in_ok-mark_behind.ensures.begun;
      kept = λ v h. c.in_ok-mark_behind.ensures.kept v (c.loop-callee.invariant.kept v h);
      done = λ v h. or_elim (is_in (take i row) v) (nat_eq x v) (sym (is_in_push (take i row) x v) ∙ ap (λ l. is_in l v) (sym (take_more row i 0 c.loop-callee-test.true)) ∙ h)
          (λ k. c.in_ok-mark_behind.ensures.kept v (c.loop-callee.invariant.done v k))
          (λ k. subst (λ y. is_in new y ≡ true) (eqb-true x v k) (c.in_ok-mark_behind.ensures.marked on));
    }

pub returns-clause-begun : goal.returns-clause-begun
returns-clause-begun t c =
    let r = c.args.callees.now in
    let row = c.deref-callee-items.result.now in
    let i = c.loop-callee.callee-index in
    let past : length row ≤ i = omega arith in
    let at : c.index-callees-number.result ≡ get_or r c.args.number c.index-callees-number.result = search rules in
    let ready : (v : ℕ) → linked (row_links 0 (rows r)) c.args.number v ≡ true → is_in c.loop-callee.marks.0 v ≡ true =
    λ v l. c.loop-callee.invariant.done v
    (ap (λ xs. is_in xs v) (take_all i row past) ∙ (sym (links_of r c.args.number c.index-callees-number.result row c.requires.number at c.deref-callee-items.ensures.value v) ∙ l)) in
    subst (λ p. IsBegun (row_links 0 (rows r)) (length r) p.0) (sym c.in_ok-mark.ensures)
    (begun_more (row_links 0 (rows r)) (length r) c.loop-callee.marks.0 c.args.number c.loop-callee.invariant.begun c.requires.number ready)

pub returns-clause-kept : goal.returns-clause-kept
returns-clause-kept t c = λ v h.
    let xs = c.loop-callee.marks.0 in
    ap (λ p. is_in p.0 v) c.in_ok-mark.ensures ∙ in_add xs c.args.number v ∙ or_left (is_in xs v) (nat_eq c.args.number v) (c.loop-callee.invariant.kept v h)

pub returns-clause-marked : goal.returns-clause-marked
returns-clause-marked t c = λ e.
    let n = c.args.number in
    let xs = c.loop-callee.marks.0 in
    ap (λ p. is_in p.0 n) c.in_ok-mark.ensures ∙ in_add xs n n ∙ or_right (is_in xs n) (nat_eq n n) (eq-eqb n n refl)
