use Rattle.std.proofs.Common.{rules, ◌^◌, ◌≡◌, ◌<◌, ◌+◌, true, false, map, cond, Some, None, ap, sym, ◌∙◌, arith}
use Rattle.std.proofs.Math.ListN.{get_or}
use Rattle.oc_tree.specs.View.{function_view}
use Rattle.oc_tree.specs.Assigned.{is_mutable, first_param, takes_mutable}
use Rattle.oc_reach.proofs.PassLaws.{mutable_at, takes_below}
use Rattle.oc_reach.proofs.params.Params.mutable.Goals as goal

pub overflow_add-result : goal.overflow_add-result
overflow_add-result c =
    let xs = c.args.self.now in
    let fs = map function_view xs in
    let u = c.args.function in
    let f = c.index-functions-function.result in
    let was : f ≡ get_or c.self.inside.functions.now u f = c.index-functions-function.is in
    let is : f ≡ get_or xs u f = was ∙ ap (λ l. get_or l u f) c.self.view_is in
    let slice = ap (λ l. get_or (map (λ p. is_mutable p.passing) l) c.args.place false) c.as_slice.ensures.value in
    let t : takes_mutable fs u c.args.place ≡ true = ap (λ l. get_or l c.args.place false) (mutable_at xs u f c.requires is)
    ∙ ap (λ g. get_or (map (λ p. is_mutable p.passing) g.params.items) c.args.place false) was ∙ sym slice ∙ sym c.is_mutable_at.ensures ∙ c.if-is_mutable_at.true in
    let b = takes_below fs u c.args.place t in
    let r = c.first-first.ensures.room in
    let n : c.first-first.result + c.args.place < 2 ^ 64 = omega (arith, b.1, r) in
    search (rules, n)

pub returns-then-is_mutable_at : goal.returns-then-is_mutable_at
returns-then-is_mutable_at c =
    let xs = c.args.self.now in
    let fs = map function_view xs in
    let u = c.args.function in
    let f = c.index-functions-function.result in
    let was : f ≡ get_or c.self.inside.functions.now u f = c.index-functions-function.is in
    let is : f ≡ get_or xs u f = was ∙ ap (λ l. get_or l u f) c.self.view_is in
    let slice = ap (λ l. get_or (map (λ p. is_mutable p.passing) l) c.args.place false) c.as_slice.ensures.value in
    let t : takes_mutable fs u c.args.place ≡ true = ap (λ l. get_or l c.args.place false) (mutable_at xs u f c.requires is)
    ∙ ap (λ g. get_or (map (λ p. is_mutable p.passing) g.params.items) c.args.place false) was ∙ sym slice ∙ sym c.is_mutable_at.ensures ∙ c.if-is_mutable_at.true in
    ap (λ n. Some (n + c.args.place)) c.first-first.ensures.first ∙ sym (ap (λ b. cond b (Some (first_param fs u + c.args.place)) None) t)

pub returns-else-is_mutable_at : goal.returns-else-is_mutable_at
returns-else-is_mutable_at c =
    let xs = c.args.self.now in
    let fs = map function_view xs in
    let u = c.args.function in
    let f = c.index-functions-function.result in
    let was : f ≡ get_or c.self.inside.functions.now u f = c.index-functions-function.is in
    let is : f ≡ get_or xs u f = was ∙ ap (λ l. get_or l u f) c.self.view_is in
    let slice = ap (λ l. get_or (map (λ p. is_mutable p.passing) l) c.args.place false) c.as_slice.ensures.value in
    let t : takes_mutable fs u c.args.place ≡ false = ap (λ l. get_or l c.args.place false) (mutable_at xs u f c.requires is)
    ∙ ap (λ g. get_or (map (λ p. is_mutable p.passing) g.params.items) c.args.place false) was ∙ sym slice ∙ sym c.is_mutable_at.ensures ∙ c.if-is_mutable_at.false in
    sym (ap (λ b. cond b (Some (first_param fs u + c.args.place)) None) t)
