use Rattle.std.proofs.Common.{ap, ◌∙◌, ◌∷◌}
use Rattle.oc_tree.specs.View.{kind_view}
use Rattle.oc_meaning.specs.Exec.{opened}
use Rattle.oc_steps.specs.Steps.{Use}
use Rattle.oc_judge.specs.Frames.{frames_view, inside_view}
use Rattle.oc_judge.specs.Values.{age_view}
use Rattle.oc_judge.proofs.Beginning.{enters}
use Rattle.oc_judge.proofs.statement.enter_statement.Goals as goal

pub returns : goal.returns
returns c =
    let s = c.args.statement in
    let env = c.args.scope.value in
    enters c.args.run.now s env c.args.store.now (frames_view c.args.frames.now.items) (frames_view c.push_task.new.frames.items) c.open_region.new.self c.requires
    (c.in_ok-push_task.ensures ∙ ap (λ l. Use (inside_view s.inside) env s.id (age_view s.found.age) (kind_view s.kind.now) ∷ l) c.in_ok-push_behind.ensures)
    (c.in_ok-open_region.ensures ∙ ap (λ q. opened q c.args.store.now) c.begun_by.ensures)
