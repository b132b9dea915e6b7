use Rattle.std.proofs.Common.{map, option_map, refl, subst}
use Rattle.oc_judge.specs.Verdicts.{IsVerdict, reported}
use Rattle.oc_audit.specs.Files.{IsReportFile}
use Rattle.oc_audit.proofs.audit.audit_file.Goals as goal

pub returns : goal.returns
returns c =
    let items = c.in-Ok.report.items.items in
    let nv = option_map (λ w. w.items) c.in-Ok.report.nv in
    let marked = c.args.marked.now in
    let file = subst (λ k. IsReportFile k.program.names (map (λ d. d.words) k.program.nv) c.args.bytes.now items nv) c.checked.ensures.same c.in-Ok.ensures.ok in
    let honest = subst (λ v. IsVerdict marked.program marked.regions (reported items nv) v) c.in-Honest.is c.in_ok-item.ensures in
    (reported items nv, record { items = items; nv = nv; file = file; is = refl }, honest)
