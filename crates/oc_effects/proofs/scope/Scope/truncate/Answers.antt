use Rattle.std.proofs.Common.{ap, sym, ◌∙◌, map, take}
use Rattle.std.proofs.lemmas.List.{take-map}
use Rattle.oc_effects.proofs.scope.Scope.truncate.Goals as goal

pub returns : goal.returns
returns c =
    let bs = c.self.inside.bindings.items in
    ap (map (λ b. (b.name.now, b.variable))) c.truncate.ensures.items ∙ sym (take-map (λ b. (b.name.now, b.variable)) c.args.len bs) ∙ ap (take c.args.len) c.self.view_is
