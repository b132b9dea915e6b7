use Rattle.std.proofs.Common.{rules, ◌≡◌, ◌++◌, [], ◌∷◌, List, ℕ, Bor, length, subst, sym, ap, ◌∙◌}
use Rattle.oc_tree.specs.Names.{Text}
use Rattle.oc_codegen.specs.declared.scope.Binding.{Binding}
use Rattle.oc_codegen.specs.Last.{AreLast, ArePlain}
use Rattle.oc_codegen.proofs.Bindings.{visible_push}
use Rattle.oc_codegen.proofs.LastPlaces.{last_declared, last_placed, plain_declared}
use Rattle.oc_codegen.proofs.scope.Scope.declare.Goals as goal

pub returns : goal.returns
returns c =
    let bs = c.self.inside.bindings.items in
    let e = visible_push bs (record { name = c.bytes-2.result; variable = c.args.variable }) in
    let v = c.self.view_is in
    let p = c.in_ok-push.ensures.items in
    let b = c.bytes-2.ensures in
    cc

pub invariant_of-self-in_err-push : goal.invariant_of-self-in_err-push
invariant_of-self-in_err-push c =
    let bs = c.self.inside.bindings.items in
    let es = c.self.inside.places.entries in
    let n : c.len-place.result ≡ length bs = search rules in
    let placed = subst (λ (es : List (Bor Text × ℕ)). AreLast bs es) (sym c.in_ok-insert.ensures.entries) (last_placed bs es c.bytes.result c.len-place.result n c.self.invariant.0) in (
      subst (λ (ys : List Binding). AreLast ys c.insert.new.self.entries) (sym {A = List Binding} c.in_err-push.ensures.items) placed,
      subst (λ (ys : List Binding). ArePlain c.self.inside.plain ys) (sym c.in_err-push.ensures.items) c.self.invariant.1,
    )

pub invariant_of-self-2 : goal.invariant_of-self-2
invariant_of-self-2 c =
    let bs = c.self.inside.bindings.items in
    let es = c.self.inside.places.entries in
    let n : c.len-place.result ≡ length bs = search rules in
    let b : Binding = record { name = c.bytes-2.result; variable = c.args.variable } in
    let own = c.bytes-2.ensures ∙ sym c.bytes.ensures in
    let declared = subst (λ (es : List (Bor Text × ℕ)). AreLast (bs ++ b ∷ []) es) (sym c.in_ok-insert.ensures.entries)
    (last_declared bs es b c.bytes.result c.len-place.result n own c.self.invariant.0) in
    let last : c.len.result ≡ length c.push.new.self.items = search rules in
    let plain = plain_declared c.self.inside.plain bs b c.len-place.result c.len.result n (last ∙ ap length c.in_ok-push.ensures.items) c.self.invariant.1 in (
      subst (λ (ys : List Binding). AreLast ys c.insert.new.self.entries) (sym c.in_ok-push.ensures.items) declared,
      subst (λ (ys : List Binding). ArePlain c.plain_with-self-inside.result ys) (sym c.in_ok-push.ensures.items)
          (subst (λ (k : ℕ). ArePlain k (bs ++ b ∷ [])) (sym c.plain_with-self-inside.ensures) plain),
    )
