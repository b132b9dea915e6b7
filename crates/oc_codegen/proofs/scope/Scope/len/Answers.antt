use Rattle.std.proofs.Common.{rules, ◌≡◌, ap, sym, ◌∙◌, length}
use Rattle.oc_codegen.proofs.Bindings.{length_visible}
use Rattle.oc_codegen.proofs.scope.Scope.len.Goals as goal

pub returns : goal.returns
returns c =
    let e : c.len.result ≡ length c.self.inside.bindings.items = search rules in
    e ∙ sym (length_visible c.self.inside.bindings.items) ∙ ap length c.self.view_is
