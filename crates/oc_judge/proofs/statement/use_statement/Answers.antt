use Rattle.std.proofs.Common.{ap, ◌∙◌, ◌∷◌}
use Rattle.oc_tree.specs.View.{kind_view}
use Rattle.oc_meaning.specs.Exec.{Went, used}
use Rattle.oc_steps.specs.Steps.{Goes, Work}
use Rattle.oc_judge.specs.Frames.{frames_view, inside_view}
use Rattle.oc_judge.specs.Stores.{completion_at}
use Rattle.oc_judge.specs.Values.{age_view}
use Rattle.oc_judge.proofs.Beginning.{uses}
use Rattle.oc_judge.proofs.statement.use_statement.Goals as goal

pub returns : goal.returns
returns c =
    let s = c.args.statement in
    let env = c.args.scope.value in
    let σ = c.args.store.now in
    uses c.args.run.now s env σ (frames_view c.args.frames.now.items) (Goes (frames_view c.begin_work.new.frames.items) (completion_at c.in_ok-completion.completion c.begin_work.new.store))
    c.requires.found c.requires.plain
    (c.in_ok-completion.ensures
    ∙ ap (λ l. Goes (Work (inside_view s.inside) env s.id (kind_view s.kind.now) ∷ l) (Went (used s.found.begins s.id (age_view s.found.age) σ))) c.in_ok-push_behind.ensures)
