use Rattle.std.proofs.Common.{◌≡◌, ap, ◌∙◌, subst, length}
use Rattle.oc_tree.specs.Checked.{TChecked, IsChecked}
use Rattle.oc_effects.specs.Effects.{params_at, effects_at}
use Rattle.oc_flow.specs.Known.{KnownBy}
use Rattle.oc_flow.proofs.Ranks.{ranked, falls}
use Rattle.oc_flow.proofs.Knows.{learns_new}
use Rattle.oc_flow.proofs.functions.learn_ready.Goals as goal

pub returns : goal.returns
returns c =
    let p = c.args.effects.now.program in
    let groups = c.args.effects.now.groups in
    let f = c.args.f in
    let e = c.checked-checked.ensures in
    let n = c.outer_at.result.nonvolatile in
    let q = c.outer_at.result.params in
    let one = c.in_ok-one.one in
    let checked : IsChecked p groups = subst (λ (t : TChecked). IsChecked t.program t.groups) e c.program-program.ensures.checked in
    let en : n ≡ length p.names.nvs = c.outer_at.ensures.nonvolatile ∙ ap (λ (t : TChecked). length t.program.names.nvs) e in
    let eq : q ≡ length (params_at p f) = c.outer_at.ensures.params ∙ ap (λ (t : TChecked). length (params_at t.program f)) e in
    let by = subst (λ ks. KnownBy n q ks (effects_at p f) one) c.as_slice.ensures.value (subst (λ es. KnownBy n q c.as_slice.result.now es one) c.of_function.ensures c.in_ok-one.ensures) in
    learns_new p (ranked p groups checked) (falls p groups checked) f c.args.known.now.items one n q c.requires.f c.requires.right c.requires.ready en eq by
