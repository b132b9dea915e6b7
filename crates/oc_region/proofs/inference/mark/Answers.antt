use Rattle.std.proofs.Common.{◌≡◌, List, rules, sym, subst}
use Rattle.oc_tree.specs.Marked.{IsMarked, TMarked, TRegion}
use Rattle.oc_tree.specs.Members.{IsOf}
use Rattle.oc_tree.specs.declared.marked.Policy.{Policy}
use Rattle.oc_needs.specs.Requirements.{TRequirement, requirements}
use Rattle.oc_honest.specs.Timely.{RunsAreTimely}
use Rattle.oc_timely.specs.Covering.{IsMet}
use Rattle.oc_region.specs.Regions.{marked, regions}
use Rattle.oc_region.proofs.Covers.{is_met, runs_timely}
use Rattle.oc_region.proofs.Exists.{each_smallest}
use Rattle.oc_region.proofs.Regions.{is_marked}
use Rattle.oc_region.proofs.inference.mark.Goals as goal

pub new-requires : goal.new-requires
new-requires c =
    let p = c.args.checked.program in
    let groups = c.args.checked.groups in
    let h = is_marked p groups c.program.ensures.checked in
    let all = subst (λ (ps : List Policy). IsMarked (record { program = p; groups = groups; policies = ps; regions = regions p groups })) (sym c.requires.policies_are) h in
    subst (λ (rs : List TRegion). IsMarked (record { program = p; groups = groups; policies = c.args.inferred.policies.items; regions = rs })) (sym c.requires.regions_are) all

pub returns-clause-smallest : goal.returns-clause-smallest
returns-clause-smallest c = each_smallest c.args.checked.program c.args.checked.groups c.program.ensures.checked

pub returns-clause-timely : goal.returns-clause-timely
returns-clause-timely c =
    let p = c.args.checked.program in
    let groups = c.args.checked.groups in
    let is : c.new.result ≡ marked p groups = search rules in
    subst RunsAreTimely (sym is) (runs_timely p groups c.program.ensures.checked)

pub returns-clause-met : goal.returns-clause-met
returns-clause-met c =
    let p = c.args.checked.program in
    let groups = c.args.checked.groups in
    let is : c.new.result ≡ marked p groups = search rules in
    subst (λ (m : TMarked). (r : TRequirement) → IsOf r (requirements m.program) → IsMet m r) (sym is) (is_met p groups c.program.ensures.checked)
