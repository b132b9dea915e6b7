use Rattle.std.proofs.Common.{◌≡◌, ◌∷◌, [], ap, ◌∙◌}
use Rattle.oc_tree.specs.Reach.{reaches_some}
use Rattle.oc_reach.specs.Marked.{is_in, add}
use Rattle.oc_reach.proofs.Tests.{only_one}
use Rattle.oc_verify.proofs.order.reaching.Goals as goal

pub returns-clause-marked : goal.returns-clause-marked
returns-clause-marked c = λ u.
    let r = c.args.reach.now in
    let f = c.args.function in
    let m : c.mark.new.self.0 ≡ f ∷ [] = ap (λ p. p.0) c.in_ok-mark.ensures ∙ ap (λ p. add p.0 f) c.in_ok-marks.ensures in
    c.in_ok-back.ensures.marked u ∙ ap (λ l. reaches_some r.0 r.1 (is_in l) u) m ∙ only_one r.0 r.1 f u c.requires
