use Rattle.std.proofs.Common.{◌<◌, ap, ◌∙◌, length, arith}
use Rattle.std.proofs.lemmas.List.{length-map}
use Rattle.oc_tree.specs.View.{function_view}
use Rattle.oc_effects.specs.Effects.{params_at}
use Rattle.oc_effects.proofs.Functions.{params_read}
use Rattle.oc_effects.proofs.known.Known.params.Goals as goal

pub returns : goal.returns
returns c =
    let fs = c.self.inside.program.now.functions.items in
    let l : c.args.function < length fs = omega (arith, c.requires, ap (λ p. length p.functions) c.self.view_is, length-map fs function_view) in
    c.as_slice.ensures.value ∙ params_read fs c.args.function c.index-called.result.now l c.index-called.ensures ∙ ap (λ p. params_at p c.args.function) c.self.view_is
