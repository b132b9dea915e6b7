use Rattle.std.proofs.Common.{rules, ◌≡◌, true}
use Rattle.oc_tree.specs.View.{stmts_view}
use Rattle.oc_meaning.specs.Exec.{Went, done}
use Rattle.oc_steps.specs.Steps.{Close, Goes, Rest}
use Rattle.std.proofs.Common.{◌∷◌}
use Rattle.oc_judge.specs.Frames.{frames_view, inside_view}
use Rattle.oc_judge.specs.Going.{program_of, regions_of, rest_here, step_at}
use Rattle.oc_judge.specs.Values.{age_view}
use Rattle.oc_judge.proofs.Leading.{leads_then, leaves_it}
use Rattle.oc_judge.proofs.statement.leave_statement.Goals as goal

pub returns-then-is_quiet : goal.returns-then-is_quiet
returns-then-is_quiet c =
    let r = c.args.run.now in
    let f = inside_view c.args.inside in
    let env = c.args.scope.value in
    let ss = stmts_view c.args.statements.now in
    let fs = frames_view c.args.frames.now.items in
    let σ = c.args.store.now in
    let is : c.is_quiet.result ≡ true = search rules in
    let quiet = c.is_quiet.ensures is in
    leads_then (program_of r) (regions_of r) (Goes (Close c.args.region ∷ Rest f env ss ∷ fs) (Went (done c.args.is_use c.args.n (age_view c.args.age) σ))) (rest_here r f env ss fs σ)
    (step_at c.in_ok-going.going (frames_view c.rest.new.frames.items) c.rest.new.store)
    (leaves_it (program_of r) (regions_of r) c.args.is_use c.args.n (age_view c.args.age) c.args.region f env ss fs σ quiet.use_ended quiet.region_ended quiet.told) c.in_ok-going.ensures
