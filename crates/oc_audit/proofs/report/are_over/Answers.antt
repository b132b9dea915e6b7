use Rattle.std.proofs.Common.{◌≡◌, ◌-◌, ◌∙◌, length, Some, rules}
use Rattle.std.specs.Prelude.{slice_get}
use Rattle.oc_audit.proofs.Standing.{ends_last}
use Rattle.oc_audit.proofs.report.are_over.Goals as goal

pub returns-in-Some : goal.returns-in-Some
returns-in-Some c =
    let last : Some c.in-Some.item.now ≡ slice_get c.args.items.now (length c.args.items.now - 1) = search rules in
    c.ends_run.ensures ∙ ends_last c.args.items.now c.in-Some.item.now last
