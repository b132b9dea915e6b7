use Rattle.std.proofs.Common.{◌≡◌, Bool, true, false, true≢false, Option, Some, None, IfNone, length, map, refl, sym, ap, ◌∙◌}
use Rattle.std.specs.Option.{IsSome}
use Rattle.std.proofs.lemmas.List.{length-map}
use Rattle.oc_tree.specs.View.{function_view}
use Rattle.oc_tree.specs.Calls.{call_links}
use Rattle.oc_weight.specs.Order.{comes_back}
use Rattle.oc_budget.proofs.CalleeLaws.{none_comes_back}
use Rattle.oc_budget.proofs.known.Known.callees_first.Goals as goal

found : {A : Type 0} (o : Option A) (b : Bool) → b ≡ false → IfNone o (b ≡ true) → IsSome o
found (Some x) b e h = refl
found None b e h = absurd (true≢false (sym h ∙ e))

pub unwrap-requires : goal.unwrap-requires
unwrap-requires c =
    let p = c.args.self.now.program in
    let own : map function_view c.self.inside.functions.now ≡ p.functions = c.self.invariant.0 ∙ ap (λ m. m.program.functions) c.self.view_is in
    let many : length c.self.inside.functions.now ≡ length p.functions = sym (length-map c.self.inside.functions.now function_view) ∙ ap length own in
    let back : comes_back (call_links (map function_view c.self.inside.functions.now)) (length c.self.inside.functions.now) ≡ false =
    ap (λ fs. comes_back (call_links fs) (length c.self.inside.functions.now)) own ∙ ap (comes_back (call_links p.functions)) many
    ∙ none_comes_back p c.args.self.now.groups c.requires.checked in
    found c.in_ok-order.order (comes_back (call_links (map function_view c.self.inside.functions.now)) (length c.self.inside.functions.now)) back c.in_ok-order.ensures.none
