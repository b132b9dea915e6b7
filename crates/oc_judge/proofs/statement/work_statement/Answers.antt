use Rattle.std.proofs.Common.{rules, ◌≡◌, ap, subst, ◌∙◌}
use Rattle.oc_tree.specs.View.{kind_view, stmts_view}
use Rattle.oc_meaning.specs.Exec.{grown}
use Rattle.oc_steps.specs.Steps.{Goes}
use Rattle.oc_judge.specs.Frames.{frames_view, inside_view}
use Rattle.oc_judge.specs.Going.{program_of, regions_of, step_at, work_here}
use Rattle.oc_judge.specs.Leading.{IsWorked, Leads}
use Rattle.oc_judge.specs.Statements.{end_frames}
use Rattle.oc_judge.specs.Stores.{completion_at}
use Rattle.oc_judge.proofs.Beginning.{works}
use Rattle.oc_judge.proofs.Leading.{at_once, leads_then}
use Rattle.oc_judge.proofs.statement.work_statement.Goals as goal

pub returns-in_ok-going-in-Some : goal.returns-in_ok-going-in-Some
returns-in_ok-going-in-Some c =
    let r = c.args.run.now in
    let s = c.args.statement in
    let env = c.args.scope.value in
    let here : c.deref.result.now ≡ env = search rules in
    let σ = c.args.store.now in
    let τ = c.work_at_once.new.store in
    let fs = frames_view c.args.frames.now.items in
    let f = inside_view s.inside in
    let k = kind_view s.kind.now in
    let o = c.in-Some.completion in
    let behind = end_frames r s (grown k (stmts_view s.rest.now) env σ) fs in
    let end = step_at c.in_ok-going-in-Some.going (frames_view c.finish.new.frames.items) τ in
    let worked : Leads (program_of r) (regions_of r) (work_here r f env s.id k behind σ) (Goes behind (completion_at o τ)) =
    subst (λ q. IsWorked r f env s.id k behind σ q τ) c.in-Some.is (subst (λ e. IsWorked r f e s.id k behind σ c.in_ok-worked.worked τ) here (c.in_ok-worked.ensures f behind)) in
    let ended : Leads (program_of r) (regions_of r) (Goes behind (completion_at o τ)) end =
    subst (λ l. Leads (program_of r) (regions_of r) (Goes (end_frames r s l fs) (completion_at o τ)) end) (c.in_ok-behind-in-Some.ensures σ c.locals-level.ensures) c.in_ok-going-in-Some.ensures in
    works r s env σ fs end c.requires.found c.requires.plain c.requires.unused
    (leads_then (program_of r) (regions_of r) (work_here r f env s.id k behind σ) (Goes behind (completion_at o τ)) end worked ended)

pub returns-in_ok-going-in-None : goal.returns-in_ok-going-in-None
returns-in_ok-going-in-None c =
    let r = c.args.run.now in
    let s = c.args.statement in
    let env = c.args.scope.value in
    let here : c.deref.result.now ≡ env = search rules in
    let σ = c.args.store.now in
    let τ = c.work_at_once.new.store in
    let fs = frames_view c.args.frames.now.items in
    let f = inside_view s.inside in
    let k = kind_view s.kind.now in
    let ss = stmts_view s.rest.now in
    let behind = end_frames r s (grown k ss env σ) fs in
    let end = step_at c.in_ok-going-in-None.going (frames_view c.work.new.frames.items) c.work.new.store in
    let same : τ ≡ σ = subst (λ q. IsWorked r f env s.id k behind σ q τ) c.in-None.is (subst (λ e. IsWorked r f e s.id k behind σ c.in_ok-worked.worked τ) here (c.in_ok-worked.ensures f behind)) in
    works r s env σ fs end c.requires.found c.requires.plain c.requires.unused
    (at_once (program_of r) (regions_of r) (work_here r f env s.id k behind σ) end
    (c.in_ok-going-in-None.ensures
    ∙ ap (λ l. work_here r f env s.id k l τ) c.in_ok-push_behind-in-None.ensures
    ∙ ap (λ υ. work_here r f env s.id k (end_frames r s (grown k ss env υ) fs) υ) same))
