use Rattle.std.proofs.Common.{ap, ◌∙◌, sym, subst, Some, None}
use Rattle.oc_tree.specs.Checked.{TChecked, IsChecked}
use Rattle.oc_effects.specs.View.{effect_view, effect_seen}
use Rattle.oc_flow.specs.Flow.{may_bring_at}
use Rattle.oc_flow.proofs.Asked.{may_bring_asked}
use Rattle.oc_flow.proofs.summary.Summaries.may_bring.Goals as goal

pub returns-in-Some : goal.returns-in-Some
returns-in-Some c =
    let e = c.self.inside.effects in
    let is : IsChecked e.program e.groups = subst (λ (t : TChecked). IsChecked t.program t.groups) c.checked.ensures c.program-program.ensures.checked in
    c.may_bring.ensures
    ∙ may_bring_asked e.program e.groups is c.args.s (Some (effect_view c.in-Some.effect.now)) (sym (ap effect_seen c.in-Some.is) ∙ c.at.ensures)
    ∙ ap (λ (t : TChecked). may_bring_at t.program c.args.s) c.self.view_is

pub returns-in-None : goal.returns-in-None
returns-in-None c =
    let e = c.self.inside.effects in
    let is : IsChecked e.program e.groups = subst (λ (t : TChecked). IsChecked t.program t.groups) c.checked.ensures c.program-program.ensures.checked in
    may_bring_asked e.program e.groups is c.args.s None (sym (ap effect_seen c.in-None.is) ∙ c.at.ensures)
    ∙ ap (λ (t : TChecked). may_bring_at t.program c.args.s) c.self.view_is
