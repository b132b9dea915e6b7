use Rattle.std.proofs.Common.{ap, ◌∙◌, sym, subst, Some, None}
use Rattle.oc_tree.specs.Checked.{TChecked, IsChecked}
use Rattle.oc_effects.specs.View.{effect_view, effect_seen}
use Rattle.oc_flow.specs.Flow.{brings_at}
use Rattle.oc_flow.specs.Known.{Knowns, Holds, brings_known}
use Rattle.oc_flow.proofs.Ranks.{ranked}
use Rattle.oc_flow.proofs.Asked.{brings_asked}
use Rattle.oc_flow.proofs.Gathered.{holds_same, holds_nothing}
use Rattle.oc_flow.proofs.summary.Summaries.brought.Goals as goal

pub returns-in_ok-brought-in-Some : goal.returns-in_ok-brought-in-Some
returns-in_ok-brought-in-Some c =
    let e = c.self.inside.effects in
    let is : IsChecked e.program e.groups = subst (λ (t : TChecked). IsChecked t.program t.groups) c.checked.ensures c.program-program.ensures.checked in
    let a = effect_view c.in-Some.effect.now in
    holds_same (brings_known c.as_slice.result.now a) (brings_at c.args.self.now.program c.args.s) c.in_ok-brought-in-Some.brought.items
    (λ v.
    ap (λ (ks : Knowns). brings_known ks a v) c.as_slice.ensures.value
    ∙ brings_asked e.program e.groups is (ranked e.program e.groups is) c.self.inside.known.items c.self.invariant c.args.s v (Some a) (sym (ap effect_seen c.in-Some.is) ∙ c.at.ensures)
    ∙ ap (λ (t : TChecked). brings_at t.program c.args.s v) c.self.view_is) c.in_ok-brought-in-Some.ensures

pub returns-in-None : goal.returns-in-None
returns-in-None c =
    let e = c.self.inside.effects in
    let is : IsChecked e.program e.groups = subst (λ (t : TChecked). IsChecked t.program t.groups) c.checked.ensures c.program-program.ensures.checked in
    subst (λ vs. Holds vs (brings_at c.args.self.now.program c.args.s)) (sym c.new.ensures.items)
    (holds_nothing (brings_at c.args.self.now.program c.args.s)
    (λ v. sym (brings_asked e.program e.groups is (ranked e.program e.groups is) c.self.inside.known.items c.self.invariant c.args.s v None (sym (ap effect_seen c.in-None.is) ∙ c.at.ensures)
    ∙ ap (λ (t : TChecked). brings_at t.program c.args.s v) c.self.view_is)))
