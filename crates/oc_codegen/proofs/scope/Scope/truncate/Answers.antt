use Rattle.std.proofs.Common.{rules, ◌≡◌, ℕ, take, ap, sym, ◌∙◌, List, length, drop, ◌-◌, subst, min}
use Rattle.oc_codegen.specs.declared.scope.Binding.{Binding}
use Rattle.oc_codegen.specs.Slots.{visible}
use Rattle.oc_codegen.specs.Last.{AreLast, ArePlain}
use Rattle.oc_codegen.proofs.Bindings.{visible_take}
use Rattle.oc_codegen.proofs.LastPlaces.{last_taken, plain_taken}
use Rattle.oc_codegen.proofs.scope.Scope.truncate.Goals as goal

pub invariant_of-self : goal.invariant_of-self
invariant_of-self c =
    let bs = c.self.inside.bindings.items in
    let n = c.self.inside.plain in
    let least : c.min-self-inside.result ≡ min n c.args.len = search rules in (
      subst (λ (ys : List Binding). AreLast ys c.self.inside.places.entries) (sym c.truncate.ensures.items) (last_taken c.args.len bs c.self.inside.places.entries c.self.invariant.0),
      subst (λ (ys : List Binding). ArePlain c.min-self-inside.result ys) (sym c.truncate.ensures.items)
          (subst (λ (k : ℕ). ArePlain k (take c.args.len bs)) (sym least) (plain_taken n c.args.len bs c.self.invariant.1)),
    )

pub returns : goal.returns
returns c =
    let bs = c.self.inside.bindings.items in
    ap visible c.truncate.ensures.items ∙ visible_take c.args.len bs ∙ ap (λ γ. drop (length γ - c.args.len) γ) c.self.view_is
