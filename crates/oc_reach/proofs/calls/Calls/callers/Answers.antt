use Rattle.std.proofs.Common.{◌≡◌, ◌∷◌, [], map, length, ap, ◌∙◌}
use Rattle.oc_tree.specs.View.{function_view}
use Rattle.oc_tree.specs.Reach.{reaches_some}
use Rattle.oc_tree.specs.Calls.{call_links}
use Rattle.oc_reach.specs.Marked.{is_in, add}
use Rattle.oc_reach.proofs.Tests.{only_one}
use Rattle.oc_reach.proofs.calls.Calls.callers.Goals as goal

pub returns-clause-marked : goal.returns-clause-marked
returns-clause-marked c = λ u.
    let fs = c.args.self.now in
    let links = call_links (map function_view fs) in
    let f = c.args.function in
    let e : c.self.inside.reach ≡ (links, length fs) = c.self.invariant.1 ∙ ap (λ l. (call_links (map function_view l), length l)) c.self.view_is in
    let m : c.mark.new.self.0 ≡ f ∷ [] = ap (λ p. p.0) c.in_ok-mark.ensures ∙ ap (λ p. add p.0 f) c.in_ok-marks.ensures in
    c.in_ok-back.ensures.marked u
    ∙ ap (λ p. reaches_some p.0 p.1 (is_in c.mark.new.self.0) u) e
    ∙ ap (λ l. reaches_some links (length fs) (is_in l) u) m
    ∙ only_one links (length fs) f u c.requires
