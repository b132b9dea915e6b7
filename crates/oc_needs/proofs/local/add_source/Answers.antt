use Rattle.std.proofs.Common.{◌∙◌, sym, ap, map, ◌++◌, append-nil}
use Rattle.oc_effects.specs.View.{effect_view}
use Rattle.oc_needs.specs.CodeView.{source_view}
use Rattle.oc_needs.proofs.Idle.{no_source}
use Rattle.oc_needs.proofs.local.add_source.Goals as goal

pub returns-then-not-may_bring : goal.returns-then-not-may_bring
returns-then-not-may_bring c =
    let old = map source_view c.args.sources.now.items in
    let none = no_source c.args.summaries.now.program c.args.function (effect_view c.args.effect.now) (sym c.may_bring.ensures ∙ c.if-not-may_bring.true) in
    sym (append-nil old) ∙ ap (λ ss. old ++ ss) (sym none)
