use Rattle.std.proofs.Common.{◌≡◌, ◌+◌, ◌∷◌, ◌++◌, map, length, drop, ap, sym, ◌∙◌, arith}
use Rattle.std.proofs.Math.ListN.{get_or}
use Rattle.std.proofs.lemmas.Grind.{common_steps}
use Rattle.oc_tree.specs.View.{function_view}
use Rattle.oc_tree.specs.Assigned.{first_param, function_links, pass_links_from}
use Rattle.oc_reach.proofs.PassLaws.{params_at, params_read, grown_by}
use Rattle.oc_reach.proofs.passes.pass_links.Goals as goal

pub add_function-requires-clause-small : goal.add_function-requires-clause-small
add_function-requires-clause-small c =
    let xs = c.args.functions.now in
    let i = c.loop-i.i in
    let f = c.index-functions-i.result in
    let is : f ≡ get_or xs i f = c.index-functions-i.is in
    let p = ap length (params_read xs i f c.loop-i-test.true is) in
    let w = ap (λ g. length g.params.items) is in
    let q = ap (λ l. length (params_at (map function_view l) i)) c.requires.functions in
    omega (arith, p, q, w, c.first-first.ensures.room)

pub loop-i-preserved : goal.loop-i-preserved
loop-i-preserved c =
    let xs = c.args.functions.now in
    let fs = map function_view xs in
    let i = c.loop-i.i in
    let f = c.index-functions-i.result in
    let item = c.index-functions-i.is in
    let e : drop i xs ≡ f ∷ drop (i + 1) xs = grind (arith, common_steps) in
    let s : map function_view c.args.params.now ≡ fs = ap (map function_view) (sym c.requires.functions) in
    let first : c.first-first.result ≡ first_param fs i = c.first-first.ensures.first ∙ ap (λ l. first_param l i) s in
    let b : function_links (map function_view c.args.params.now) c.first-first.result (function_view f) ≡ function_links fs (first_param fs i) (function_view f) =
    ap (λ l. function_links l c.first-first.result (function_view f)) s ∙ ap (λ n. function_links fs n (function_view f)) first in
    let a : c.add_function.new.links.items ≡ c.loop-i.links.items ++ function_links fs (first_param fs i) (function_view f) =
    c.in_ok-add_function.ensures ∙ ap (λ l. c.loop-i.links.items ++ l) b in
    let inv = sym (ap (λ l. c.loop-i.links.items ++ pass_links_from fs i (map function_view l)) e) ∙ c.loop-i.invariant in
    grown_by c.loop-i.links.items c.add_function.new.links.items (function_links fs (first_param fs i) (function_view f)) (pass_links_from fs (i + 1) (map function_view (drop (i + 1) xs))) _ a inv
