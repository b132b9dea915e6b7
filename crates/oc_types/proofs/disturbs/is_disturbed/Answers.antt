use Rattle.std.proofs.Common.{◌≡◌, Some, ap, sym, ◌∙◌}
use Rattle.oc_reach.specs.Marked.{is_in}
use Rattle.oc_tree.specs.Calls.{place}
use Rattle.oc_tree.specs.View.{kind_view, program_view}
use Rattle.oc_types.proofs.Disturbed.{quiet_more}
use Rattle.oc_types.proofs.disturbs.is_disturbed.Goals as goal

pub returns-in_ok-changed-in-Some-clause-quiet : goal.returns-in_ok-changed-in-Some-clause-quiet
returns-in_ok-changed-in-Some-clause-quiet c = λ unchanged x i at marked.
    let p = program_view c.args.top.now in
    let k = kind_view c.args.statement.now in
    let placed : Some c.in-Some.place ≡ place p.names.nvs c.args.name.now = sym c.in-Some.is ∙ c.nv_place.ensures.place in
    quiet_more p k c.args.seen.now.0 c.args.name.now c.in-Some.place c.requires.before placed (sym c.in_ok-changed-in-Some.ensures ∙ unchanged) x i at
    (sym (ap (λ m. is_in m.0 i) c.in_ok-mark-in-Some.ensures) ∙ marked)
