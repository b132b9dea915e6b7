use Rattle.std.proofs.Common.{◌≡◌, subst, ap, ◌∙◌, map, Bor, List}
use Rattle.std.specs.Prelude.{option_map, ℤ}
use Rattle.oc_tree.specs.View.{program_view}
use Rattle.oc_tree.specs.Regions.{region_view}
use Rattle.oc_items.specs.Told.{told_of}
use Rattle.oc_steps.specs.Auditing.{Finds, first_watch}
use Rattle.oc_judge.specs.Verdicts.{found}
use Rattle.oc_judge.proofs.Hearing.{verdict}
use Rattle.oc_judge.proofs.judge.judge.Goals as goal

pub returns-in-Ok : goal.returns-in-Ok
returns-in-Ok c =
    let m = c.args.marked.now in
    let q = program_view c.program.result.now in
    let ss = map region_view c.regions.result.now in
    let nv = option_map {T = Bor (List ℤ)} {U = List ℤ} (λ w. w.now) c.args.nv in
    let items = map told_of c.args.items.now in
    let p : q ≡ m.program = c.program.ensures.same ∙ ap (λ x. x.program) c.checked.ensures.same in
    let rs : ss ≡ m.regions = c.regions.ensures in
    verdict m.program m.regions c.args.items.now nv c.in-Ok.verdict c.checked.ensures.marked.checked.form.numbered
    (subst (λ x. Finds x m.regions nv (first_watch x m.regions) items 1 (found c.in-Ok.verdict)) p
    (subst (λ x. Finds q x nv (first_watch q x) items 1 (found c.in-Ok.verdict)) rs c.in-Ok.ensures))
