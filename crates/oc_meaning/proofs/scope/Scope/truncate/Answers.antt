use Rattle.std.proofs.Common.{ap, ◌∙◌, ◌-◌, length, drop}
use Rattle.oc_meaning.specs.Scopes.{visible}
use Rattle.oc_meaning.proofs.Visible.{visible-take}
use Rattle.oc_meaning.proofs.scope.Scope.truncate.Goals as goal

pub returns : goal.returns
returns c =
    let bs = c.self.inside.bindings.items in
    ap visible c.truncate.ensures.items ∙ visible-take bs c.args.len ∙ ap (λ γ. drop (length γ - c.args.len) γ) c.self.view_is
