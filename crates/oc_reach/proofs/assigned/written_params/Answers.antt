use Rattle.std.proofs.Common.{◌≡◌, ◌<◌, map, ap, sym, subst, ◌∙◌, true}
use Rattle.oc_tree.specs.View.{function_view}
use Rattle.oc_tree.specs.Assigned.{param_count}
use Rattle.oc_reach.specs.Marked.{is_in}
use Rattle.oc_reach.proofs.WriteLaws.{writes_within}
use Rattle.oc_reach.proofs.assigned.written_params.Goals as goal

pub mark_all-requires : goal.mark_all-requires
mark_all-requires c = λ v h.
    let fs = map function_view c.args.functions.now in
    let n : c.count-count.result ≡ param_count fs = c.count-count.ensures.count ∙ ap (λ l. param_count (map function_view l)) (sym c.requires.params) in
    let e = c.as_slice.ensures.value ∙ c.in_ok-writes.ensures in
    let b = writes_within fs v (subst (λ l. is_in l v ≡ true) e h) in
    let m = ap (λ p. p.1) c.in_ok-marks.ensures in
    subst (λ k. v < k) (sym (m ∙ n)) b
