use Rattle.std.proofs.Common.{◌≡◌, ◌∙◌, subst}
use Rattle.std.proofs.Math.ListN.{get_or}
use Rattle.oc_tree.specs.declared.tree.VarId.TheVariants.{Nv}
use Rattle.oc_tree.specs.Checked.{IsChecked, TChecked}
use Rattle.oc_needs.proofs.Own.{front_same, kept_own}
use Rattle.oc_needs.proofs.local.keep_each.Goals as goal

pub returns-then-others-eq1 : goal.returns-then-others-eq1
returns-then-others-eq1 c =
    let t = c.args.summaries.now in
    let same : c.checked.result.now ≡ t = c.checked.ensures ∙ c.effects-effects.ensures in
    let checked = subst (λ (t : TChecked). IsChecked t.program t.groups) same c.program-program.ensures.checked in
    c.in_ok-kept.ensures
    ∙ kept_own t.program t.groups checked c.args.function c.args.others.now c.args.own.now (get_or c.args.others.now 0 (Nv 0)) c.requires.function c.requires.own c.if-others-eq1.true
    (front_same c.args.others.now (Nv 0) c.if-others-eq1.true)
