use Rattle.std.proofs.Common.{◌≡◌, ◌<◌, [], map, ap, sym, subst, ◌∙◌, true}
use Rattle.oc_tree.specs.View.{function_view}
use Rattle.oc_tree.specs.Reach.{reaches_some}
use Rattle.oc_tree.specs.Assigned.{writes_from}
use Rattle.oc_reach.specs.Marked.{is_in}
use Rattle.oc_reach.proofs.Lists.{in_all}
use Rattle.oc_reach.proofs.WriteLaws.{writes_within, assigned_is}
use Rattle.oc_reach.proofs.assigned.assigned_params.Goals as goal

pub mark_back-requires-clause-inside : goal.mark_back-requires-clause-inside
mark_back-requires-clause-inside c = λ v h.
    let fs = map function_view c.args.functions.now in
    let w = writes_from fs 0 fs in
    let e : is_in w v ≡ true = sym (ap (λ l. is_in l v) c.in_ok-marks.ensures.marks ∙ in_all w [] v) ∙ h in
    let n = ap (λ p. p.1) c.in_ok-reach.ensures in
    subst (λ k. v < k) (sym n) (writes_within fs v e)

pub returns-clause-marked : goal.returns-clause-marked
returns-clause-marked c = λ n.
    let fs = map function_view c.args.functions.now in
    let start = c.in_ok-marks.marks.0 in
    c.in_ok-back.ensures.marked n
    ∙ ap (λ p. reaches_some p.0 p.1 (is_in start) n) c.in_ok-reach.ensures
    ∙ assigned_is fs start n c.in_ok-marks.ensures.marks
