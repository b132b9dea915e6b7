use Rattle.std.proofs.Common.{rules, ◌≡◌, true, false, sym, ◌∙◌}
use Rattle.std.proofs.lemmas.Bool.{and_from}
use Rattle.oc_tree.specs.declared.said.Said.TheVariants.{Showed}
use Rattle.oc_steps.specs.Fold.{is_said, may_show}
use Rattle.oc_judge.specs.Stores.{event_view}
use Rattle.oc_judge.specs.Ways.{way_view}
use Rattle.oc_judge.proofs.Hearing.{second_false}
use Rattle.oc_judge.proofs.watch.tell_shown.Goals as goal

pub returns-then-not-may_show-clause-right : goal.returns-then-not-may_show-clause-right
returns-then-not-may_show-clause-right c p nv h =
    let shows : c.may_show.result ≡ false = search rules in
    sym (second_false (is_said c.args.event.said (Showed c.args.what)) (may_show p nv (way_view c.args.way.now) c.args.what (event_view c.args.event))
    (sym (c.may_show.ensures p nv h) ∙ shows))

pub returns-clause-right : goal.returns-clause-right
returns-clause-right c p nv h =
    let says : c.says_shown.result ≡ true = search rules in
    let shows : c.may_show.result ≡ true = search rules in
    sym (and_from (is_said c.args.event.said (Showed c.args.what)) (may_show p nv (way_view c.args.way.now) c.args.what (event_view c.args.event))
    (sym c.says_shown.ensures ∙ says) (sym (c.may_show.ensures p nv h) ∙ shows))
