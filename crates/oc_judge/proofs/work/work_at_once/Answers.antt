use Rattle.oc_tree.specs.View.{kind_view}
use Rattle.oc_steps.specs.Steps.{Goes}
use Rattle.oc_judge.specs.Going.{program_of, regions_of}
use Rattle.oc_judge.specs.Stores.{completion_at}
use Rattle.oc_judge.specs.Values.{value_view}
use Rattle.oc_judge.proofs.Leading.{takes_it}
use Rattle.oc_judge.proofs.work.work_at_once.Goals as goal

pub returns-in_ok-completion-in-Some : goal.returns-in_ok-completion-in-Some
returns-in_ok-completion-in-Some c f fs =
    let p = program_of c.args.run.now in
    let rs = regions_of c.args.run.now in
    let env = c.args.scope.now in
    let k = kind_view c.args.kind.now in
    takes_it p rs f env c.args.n k fs (value_view c.in-Some.value) c.args.store.now (Goes fs (completion_at c.in_ok-completion-in-Some.completion c.take.new.store)) c.requires
    (c.in-Some.ensures p rs f c.args.n fs) (c.in_ok-completion-in-Some.ensures fs)
