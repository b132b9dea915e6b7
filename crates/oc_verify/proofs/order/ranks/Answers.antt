use Rattle.std.proofs.Common.{rules, ◌≡◌, ◌<◌, ◌+◌, ◌++◌, suc, length, take, drop, get_or, ap, sym, subst, ◌∙◌, arith}
use Rattle.oc_tree.specs.Reach.{count_below, one, reaches}
use Rattle.oc_verify.proofs.Exact.{front_is}
use Rattle.oc_verify.proofs.OrderLaws.{counted_low}
use Rattle.oc_verify.proofs.order.ranks.Goals as goal

pub count_marked-requires-clause-few : goal.count_marked-requires-clause-few
count_marked-requires-clause-few c = λ u.
    let r = c.args.reach.now in
    let xs = c.loop-function.ranks.items in
    let low : c.loop-function.function < r.1 = search rules in
    let small : length xs < 9223372036854775808 = search rules in
    let n = c.loop-function.invariant.sized in
    let l = counted_low (reaches r.0 r.1) r.1 c.loop-function.function xs n c.loop-function.invariant.counted u in
    let here : get_or xs u 0 < 9223372036854775808 = omega (arith, low, small, n, l) in
    subst (λ ys. get_or ys u 0 < 9223372036854775808) (sym c.deref_mut.ensures.value) here

pub loop-function-preserved : goal.loop-function-preserved
loop-function-preserved c =
    let r = c.args.reach.now in
    let f = c.loop-function.function in
    let xs = c.loop-function.ranks.items in
    let ys = c.count_marked.new.ranks in
    let long : length ys ≡ r.1 = c.count_marked.ensures.sized ∙ c.in_ok-marks.ensures.bound in
    let len : length ys ≡ c.loop-function.ranks.len = search rules in
    let back : take c.loop-function.ranks.len (ys ++ drop (length ys) xs) ≡ ys = front_is ys (drop (length ys) xs) c.loop-function.ranks.len len in
    let m : suc f ≡ f + 1 = omega arith in
    record {
      sized = ap length back ∙ long;
      counted = λ u h. ap (λ zs. get_or zs u 0) back ∙ c.count_marked.ensures.counted u (subst (λ k. u < k) (sym c.in_ok-marks.ensures.bound) h)
          ∙ ap (λ b. one b + get_or c.deref_mut.result.now u 0) (c.in_ok-marks.ensures.marked u)
          ∙ ap (λ zs. one (reaches r.0 r.1 u f) + get_or zs u 0) c.deref_mut.ensures.value
          ∙ ap (λ k. one (reaches r.0 r.1 u f) + k) (c.loop-function.invariant.counted u h)
          ∙ ap (count_below (reaches r.0 r.1 u)) m;
    }
