use Rattle.std.proofs.Common.{◌≡◌, ◌∙◌, subst}
use Rattle.oc_tree.specs.Checked.{IsChecked, TChecked}
use Rattle.oc_regcheck.proofs.Verdicts.{from_sorted}
use Rattle.oc_regcheck.proofs.check.verdict.Goals as goal

pub returns : goal.returns
returns c =
    let same : c.checked.result.now ≡ c.args.summaries.now = c.checked.ensures ∙ c.effects.ensures in
    let checked = subst (λ (t : TChecked). IsChecked t.program t.groups) same c.program-program.ensures.checked in
    from_sorted c.args.summaries.now.program checked.form.numbered c.in_ok-sorted.sorted c.args.blocks.now c.in_ok-sorted.ensures c.in_ok-verdict.verdict c.in_ok-verdict.ensures
