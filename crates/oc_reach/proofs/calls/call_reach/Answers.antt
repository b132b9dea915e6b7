use Rattle.std.proofs.Common.{◌≡◌, ◌<◌, map, length, ap, subst, ◌∙◌, true}
use Rattle.std.proofs.lemmas.List.{length-map}
use Rattle.oc_tree.specs.View.{function_view}
use Rattle.oc_tree.specs.Reach.{linked}
use Rattle.oc_tree.specs.Calls.{call_links, links_from}
use Rattle.oc_reach.proofs.LinkLaws.{calls_within}
use Rattle.oc_reach.proofs.calls.call_reach.Goals as goal

pub new-requires : goal.new-requires
new-requires c = λ u v h.
    let fs = map function_view c.args.functions.now in
    let e : c.in_ok-links.links.items ≡ call_links fs = c.in_ok-links.ensures ∙ ap (λ t. links_from t 0 fs) c.requires in
    let p = calls_within fs u v (subst (λ l. linked l u v ≡ true) e h) in
    let n : length fs ≡ length c.args.functions.now = length-map c.args.functions.now function_view in
    (subst (λ k. u < k) n p.0, subst (λ k. v < k) n p.1)
