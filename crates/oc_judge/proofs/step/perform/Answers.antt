use Rattle.std.proofs.Common.{rules, ◌≡◌, sym, ap, ◌∙◌, ◌++◌, subst, IfOk}
use Rattle.oc_tree.specs.View.{kind_view}
use Rattle.oc_meaning.specs.Exec.{Went}
use Rattle.oc_steps.specs.Steps.{Goes}
use Rattle.oc_judge.specs.Frames.{frames_view, task_frames}
use Rattle.oc_judge.specs.Going.{program_of, regions_of, step_here, taken_here}
use Rattle.oc_judge.specs.Leading.{LeadsTo}
use Rattle.oc_judge.specs.Stores.{completion_at}
use Rattle.oc_judge.specs.Values.{value_view}
use Rattle.oc_judge.proofs.Leading.{at_once}
use Rattle.oc_judge.proofs.step.perform.Goals as goal

pub returns-in_ok-completion-in-Take : goal.returns-in_ok-completion-in-Take
returns-in_ok-completion-in-Take c =
    let r = c.args.run.now in
    let env = c.args.scope.value in
    let n = c.in-Take.stmt in
    let k = kind_view c.in-Take.kind.now in
    let fs = frames_view c.args.frames.now.items in
    let σ = c.args.store.now in
    let here : c.deref.result.now ≡ env = search rules in
    at_once (program_of r) (regions_of r) (step_here r (task_frames env c.args.task ++ fs) (Went σ)) (Goes fs (completion_at c.in_ok-completion-in-Take.completion c.take.new.store))
    (c.in_ok-completion-in-Take.ensures fs
    ∙ ap (λ e. taken_here r e n k (value_view c.plain.result) fs σ) here
    ∙ ap (λ v. taken_here r env n k v fs σ) c.plain.ensures
    ∙ ap (λ t. step_here r (task_frames env t ++ fs) (Went σ)) (sym c.in-Take.is))

pub returns-in-Behind : goal.returns-in-Behind
returns-in-Behind c =
    let r = c.args.run.now in
    subst
    (λ t. IfOk c.leave_statement.result
    (λ g. LeadsTo r (step_here r (task_frames c.args.scope.value t ++ frames_view c.args.frames.now.items) (Went c.args.store.now)) g (frames_view c.leave_statement.new.frames.items)
    c.leave_statement.new.store))
    (sym c.in-Behind.is) c.leave_statement.ensures
